pub mod Checks
pub mod Groups
pub mod Openings
pub mod Seen
