pub mod Tabled
pub mod Cells
pub mod Finals
pub mod Ending
