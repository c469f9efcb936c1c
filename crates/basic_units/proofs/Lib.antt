pub mod Mixers
pub mod Ranges
pub mod Reactors
pub mod Vessels
