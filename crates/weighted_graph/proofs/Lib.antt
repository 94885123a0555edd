pub mod Grouping
pub mod IndexLemmas
pub mod LeftLemmas
