pub mod Twins
pub mod Sizes
pub mod Ends
pub mod Pairs
pub mod Reached
pub mod Parts
pub mod Back
pub mod Built
