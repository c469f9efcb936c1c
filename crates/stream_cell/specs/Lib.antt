pub mod Cell
pub mod Dealing
pub mod Flat
pub mod Histories
pub mod Kinds
pub mod Passes
pub mod Seats
pub mod Steps
