pub mod Flats
pub mod Cuts
pub mod Places
pub mod Shapes
pub mod Meetings
pub mod Fronts
