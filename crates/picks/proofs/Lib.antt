pub mod Lows
pub mod Pushes
