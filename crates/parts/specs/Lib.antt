pub mod Parts
pub mod InRange
pub mod Given
pub mod InForce
