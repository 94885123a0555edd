pub mod Solutions
pub mod Solving
pub mod Passes
pub mod Alternating
pub mod Kept
pub mod Laws
