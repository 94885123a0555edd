pub mod Thresholds
pub mod Halving
