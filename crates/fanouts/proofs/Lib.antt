pub mod Readings
pub mod Counts
pub mod Sums
pub mod Places
pub mod Ties
pub mod Passes
pub mod Answers
