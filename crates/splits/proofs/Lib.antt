pub mod Gathering
pub mod Works
pub mod Cuts
pub mod Ends
