pub mod Demand3
pub mod Demand3Calls
pub mod Demand2
