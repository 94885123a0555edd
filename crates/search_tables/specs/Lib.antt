pub mod Updates
pub mod Listing
pub mod Linked
pub mod IncidentEdges
pub mod Entries
