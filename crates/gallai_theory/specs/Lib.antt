pub mod Matchings
pub mod Decomposition
pub mod Laws
