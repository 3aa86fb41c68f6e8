pub mod Flopping
