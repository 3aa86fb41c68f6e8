pub mod Pins
pub mod Fillings
pub mod Answers
