pub mod PlantOf
pub mod Rows
pub mod Ordered
pub mod Seen
pub mod Sound
pub mod Steps
pub mod Verdict
