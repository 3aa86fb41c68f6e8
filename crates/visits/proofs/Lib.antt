pub mod Places
pub mod Prefixes
pub mod Holding
pub mod Sorts
pub mod Enters
pub mod Leaves
pub mod Runs
