pub mod Links
pub mod Faults
pub mod Rising
pub mod Reaching
pub mod Ranked
