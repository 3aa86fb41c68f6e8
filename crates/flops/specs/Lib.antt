pub mod Flopped
