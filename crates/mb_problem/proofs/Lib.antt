pub mod Common
pub mod EdgeLemmas
pub mod DegreeLemmas
pub mod MarkLemmas
pub mod WalkPlaces
pub mod EndLemmas
pub mod WalkSteps
pub mod JoinLemmas
pub mod PartTruths
pub mod CountBounds
pub mod SideLemmas
pub mod KindLaws
mod GraphLemmas
mod HeaviestLemmas
mod TwoEnds
