pub mod Kept
pub mod Line
pub mod Output
pub mod Steps
pub mod Writer
