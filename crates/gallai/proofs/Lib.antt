pub mod Links
pub mod Moved
pub mod Greatest
mod Whole
mod Engines
