pub mod Numbers
pub mod Buffers
pub mod Endings
pub mod ArrayEndings
pub mod JoinEndings
