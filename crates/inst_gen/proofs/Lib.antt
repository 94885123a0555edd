pub mod States
pub mod Valid
pub mod Fit
