pub mod Rows
pub mod Said
