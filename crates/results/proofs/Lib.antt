pub mod Drivers
pub mod Fans
pub mod Rooms
pub mod Counts
