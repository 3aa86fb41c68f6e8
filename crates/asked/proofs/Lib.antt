pub mod Graphs
pub mod Begins
pub mod Asked
