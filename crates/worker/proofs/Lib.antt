pub mod Grown
pub mod Hands
pub mod Knows
pub mod Later
pub mod Made
pub mod Rooms
pub mod Sound
pub mod Taken
