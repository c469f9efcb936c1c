pub mod Joined
pub mod Firsts
pub mod Labels
pub mod Ticks
pub mod Traces
