pub mod Turns
pub mod Felling
pub mod Exchange
pub mod Sides
pub mod Matching
pub mod Opening
