pub mod Positions
pub mod LineLemmas
pub mod FieldLemmas
pub mod NumberLemmas
pub mod RowLemmas
pub mod StreamLemmas
