pub mod Once
pub mod Apart
pub mod Steps
pub mod Numbers
pub mod Whole
