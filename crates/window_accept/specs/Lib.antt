pub mod Wide
pub mod Searching
pub mod Session
pub mod Making
