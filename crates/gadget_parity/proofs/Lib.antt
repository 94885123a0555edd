pub mod Standing
pub mod SideCounts
pub mod SideGraph
pub mod Building
pub mod Turns
pub mod Reached
pub mod SideEnds
pub mod Paths
mod Singles
mod InTurn
mod Back
