pub mod Joins
pub mod Groups
