pub mod Cards
pub mod Parts
pub mod Meaning
