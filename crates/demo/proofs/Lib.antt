pub mod Totals
pub mod Bounds
pub mod Small
pub mod Passing
pub mod Trains
