pub mod Read
pub mod Value
pub mod Spots
pub mod Feeds
pub mod Units
pub mod Plant
pub mod Within
