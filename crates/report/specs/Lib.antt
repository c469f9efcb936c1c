pub mod Lines
pub mod Output
pub mod Ranks
pub mod Trace
