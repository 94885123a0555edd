pub mod First
pub mod Sets
pub mod Terminals
pub mod Marked
pub mod Outcomes
pub mod Numbers
pub mod Answers
pub mod PairedUp
