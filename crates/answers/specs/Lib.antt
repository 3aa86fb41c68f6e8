pub mod Printing
pub mod Answer
