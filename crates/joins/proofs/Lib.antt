pub mod Reading
pub mod Joins
