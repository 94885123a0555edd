pub mod Updates
pub mod Linked
