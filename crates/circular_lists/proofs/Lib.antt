pub mod Updates
pub mod LinkedBoth
pub mod Owners
