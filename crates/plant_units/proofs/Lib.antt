pub mod AllKinds
pub mod Making
pub mod Spreads
