pub mod Gathering
pub mod LastLines
pub mod Lines
pub mod Members
pub mod Sets
