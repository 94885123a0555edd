pub mod Codes
pub mod Lines
pub mod Checking
pub mod Answers
