pub mod Levels
pub mod Plans
