pub mod Codes
pub mod EachAnswer
pub mod OddJoins
pub mod Trials
