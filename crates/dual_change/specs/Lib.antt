pub mod Changes
pub mod Candidates
pub mod Laws
pub mod Turns
