pub mod Best
pub mod Digits
pub mod Tours
pub mod Tried
