pub mod Grown
pub mod Shrunk
pub mod Circuits
pub mod Shrinkable
pub mod Expanded
pub mod Scanned
pub mod Moving
pub mod Left
