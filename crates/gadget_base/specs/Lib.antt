pub mod Blocks
pub mod Added
pub mod Gadgets
pub mod Starts
pub mod Certified
pub mod Lighter
pub mod Listed
pub mod Links
