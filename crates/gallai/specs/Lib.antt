pub mod Decompositions
pub mod Finders
