pub mod NextRows
pub mod Stepping
