pub mod Paths
pub mod Pigeons
pub mod Maxima
pub mod Ascents
pub mod Searches
pub mod Found
pub mod Choices
pub mod Ways
