mod AnswerForms
mod TurnedSets
mod ListedSets
mod SolvedSets
mod WalkLines
pub mod Forms
mod SetForms
mod Weighed
pub mod Presenting
mod ShortDocuments
pub mod Settling
mod Circuits
pub mod Searches
mod SearchedGraphs
mod Heaviest
pub mod DualFreeForms
mod SettlingLightest
mod Outer
