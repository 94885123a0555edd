pub mod Ascents
pub mod CountLines
pub mod DualLines
mod GatherSteps
mod ItemForms
mod LastHolders
pub mod LineItems
pub mod LinesOf
pub mod Listing
mod MappedLists
mod Marking
mod NamedSets
pub mod Names
mod SetSizes
pub mod SomeLines
mod TakenIn
mod Tallies
