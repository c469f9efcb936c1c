pub mod Checks
pub mod Passed
pub mod Products
pub mod Rates
pub mod Refusals
