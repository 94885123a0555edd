pub mod Updates
pub mod Kept
pub mod KeptSteps
pub mod IncidenceLists
pub mod Entries
