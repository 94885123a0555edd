pub mod Claims
pub mod Ranges
pub mod Within
pub mod Certificates
pub mod Proved
pub mod Excluded
pub mod Laws
