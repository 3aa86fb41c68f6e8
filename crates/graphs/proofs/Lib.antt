pub mod Scanning
pub mod Rams
pub mod Matching
pub mod Both
pub mod Records
pub mod Steps
pub mod Numbers
