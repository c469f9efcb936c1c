pub mod Answers
pub mod Benches
pub mod Cells
pub mod Gathering
pub mod Working
