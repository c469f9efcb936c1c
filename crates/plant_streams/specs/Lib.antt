pub mod Limits
pub mod Seen
pub mod Streams
