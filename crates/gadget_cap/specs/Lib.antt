pub mod Capped
pub mod Places
