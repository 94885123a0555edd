pub mod Rules
pub mod Faults
pub mod Verdicts
pub mod Marked
pub mod Stated
pub mod Extents
