pub mod Begun
pub mod Remembering
