pub mod Pinning
pub mod Graphing
