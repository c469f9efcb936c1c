pub mod Joins
pub mod Cuts
pub mod Digits
pub mod LineLaws
