pub mod Joining
pub mod Starting
pub mod Stealing
pub mod Taken
