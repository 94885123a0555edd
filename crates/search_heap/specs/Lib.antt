pub mod Moments
pub mod Slots
pub mod Heaps
pub mod Fields
pub mod Laws
pub mod Rising
