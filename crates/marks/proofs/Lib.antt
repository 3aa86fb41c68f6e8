pub mod Joining
pub mod Picking
