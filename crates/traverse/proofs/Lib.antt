pub mod Early
pub mod Runs
pub mod Answers
