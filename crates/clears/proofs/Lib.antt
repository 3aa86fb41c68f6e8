pub mod Clearing
pub mod Leaving
