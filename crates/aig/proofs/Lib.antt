pub mod Filling
pub mod Asking
pub mod Entry
