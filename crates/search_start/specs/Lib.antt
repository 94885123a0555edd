pub mod Starts
pub mod Sweeps
pub mod Weights
pub mod Proving
pub mod Bounds
pub mod Ready
