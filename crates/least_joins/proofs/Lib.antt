pub mod MatchedEdges
pub mod Listing
mod Leasts
