pub mod Berge
pub mod Equality
mod Sliding
pub mod Twins
pub mod Loops
