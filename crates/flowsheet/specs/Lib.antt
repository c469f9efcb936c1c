pub mod Plant
pub mod Reading
pub mod Trajectory
pub mod Run
pub mod Renewal
pub mod Limited
pub mod Worked
