pub mod Summary
pub mod Adding
pub mod Following
pub mod Sizes
