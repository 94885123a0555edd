pub mod Bounds
pub mod Looks
pub mod Keys
