pub mod Looking
pub mod Turns
pub mod Steps
pub mod Runs
pub mod Orders
