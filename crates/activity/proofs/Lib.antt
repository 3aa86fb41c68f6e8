pub mod Composing
pub mod Tracing
