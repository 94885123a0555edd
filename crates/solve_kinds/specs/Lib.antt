pub mod Presented
pub mod Lightest
pub mod Greatest
pub mod Sized
