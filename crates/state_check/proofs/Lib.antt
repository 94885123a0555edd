pub mod Checked
pub mod RingLinks
pub mod Parities
