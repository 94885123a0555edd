pub mod Extracted
pub mod Copied
