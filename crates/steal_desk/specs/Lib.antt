pub mod Deques
pub mod Drawing
pub mod Making
pub mod Opening
pub mod Pushing
pub mod Seats
pub mod Steps
pub mod Taking
