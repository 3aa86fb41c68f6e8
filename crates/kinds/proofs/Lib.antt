pub mod Whole
pub mod Allow
