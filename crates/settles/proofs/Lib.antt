pub mod Settles
pub mod Rows
