pub mod Bounded
pub mod Links
pub mod Heard
pub mod Tops
pub mod Notes
mod Sweeps
mod Tabled
mod Tallied
mod Bests
pub mod Chosen
