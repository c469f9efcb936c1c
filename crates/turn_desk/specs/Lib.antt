pub mod Dealing
pub mod Passes
pub mod Steps
pub mod Turns
