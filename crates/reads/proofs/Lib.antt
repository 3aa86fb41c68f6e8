pub mod Numbers
pub mod Inputs
