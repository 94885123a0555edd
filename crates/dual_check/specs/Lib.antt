pub mod Crossed
pub mod Fault
pub mod Forests
pub mod Links
pub mod NestedTotals
pub mod Shared
pub mod Trees
