pub mod Lending
pub mod Plan
pub mod Room
pub mod Giver
pub mod Ticks
pub mod Carrying
