pub mod StartLemmas
pub mod WalkLemmas
pub mod TracingLemmas
pub mod JoinLemmas
pub mod TourLemmas
