pub mod Within
pub mod Trails
