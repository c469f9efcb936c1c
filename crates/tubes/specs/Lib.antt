pub mod Cut
pub mod Flat
pub mod Shape
pub mod Meeting
