pub mod Checked
pub mod Onward
pub mod Turns
pub mod Depths
