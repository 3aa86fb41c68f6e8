pub mod Text
pub mod Reading
pub mod Meanings
