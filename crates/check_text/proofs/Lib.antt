pub mod KeptNumbers
pub mod Checks
pub mod InputParts
pub mod AcceptedBehind
