pub mod Streams
pub mod Places
pub mod Following
pub mod Judging
pub mod Making
pub mod Readers
pub mod Found
