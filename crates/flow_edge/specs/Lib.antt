pub mod Faults
pub mod Source
pub mod Sink
pub mod Status
pub mod ReadText
