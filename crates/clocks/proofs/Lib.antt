pub mod Steps
pub mod Numbering
