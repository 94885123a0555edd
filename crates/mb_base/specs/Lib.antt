pub mod Streams
pub mod MemoryStreams
pub mod Text
pub mod Rows
