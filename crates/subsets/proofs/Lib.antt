pub mod Endpoints
pub mod Full
pub mod Places
