pub mod OneTerm
mod Ranks
pub mod WalkParity
mod Cliques
mod Places
mod Reached
mod PortEdges
mod Back
mod Steps
mod Marks
pub mod Laws
mod Tours
mod Paths
