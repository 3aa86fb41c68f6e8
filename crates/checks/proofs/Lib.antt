pub mod Chain
pub mod Entry
