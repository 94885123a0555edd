pub mod ListedCounts
mod Ways
mod Weights
pub mod EvenSets
mod Steps
mod Found
