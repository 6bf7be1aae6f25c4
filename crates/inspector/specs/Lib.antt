pub mod Inspecting
pub mod Parts
pub mod Passing
