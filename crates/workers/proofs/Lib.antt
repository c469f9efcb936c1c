pub mod Gathers
pub mod Adoptions
pub mod Benches
pub mod Opened
pub mod Hands
pub mod Closed
pub mod Adoptable
