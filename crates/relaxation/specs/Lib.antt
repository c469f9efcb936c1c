pub mod Tube
pub mod Window
pub mod Core
pub mod Sweep
pub mod History
pub mod Gathered
pub mod Worked
