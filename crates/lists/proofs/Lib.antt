pub mod Steps
pub mod Musts
