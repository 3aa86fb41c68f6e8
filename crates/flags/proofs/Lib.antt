pub mod Words
pub mod Making
pub mod Roots
pub mod Passing
