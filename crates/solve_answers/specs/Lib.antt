pub mod Solved
pub mod Open
pub mod Chosen
pub mod Details
pub mod Settled
pub mod Stands
pub mod Excluding
