pub mod Placing
pub mod Lines
