pub mod EachKind
pub mod InRange
pub mod Excluding
pub mod Texts
pub mod LineSizes
pub mod Short
pub mod ShortSets
pub mod SettlingSets
pub mod PartDocuments
mod SplitParts
mod JoinAnswers
mod PathJoins
mod TurnAnswers
