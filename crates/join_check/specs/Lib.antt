pub mod Forests
pub mod Least
pub mod Laws
pub mod Checks
