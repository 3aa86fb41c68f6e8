pub mod Stops
pub mod Gathers
pub mod Raises
pub mod Ranked
