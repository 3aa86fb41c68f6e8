pub mod Pairs
pub mod Chains
pub mod Find
pub mod Steps
