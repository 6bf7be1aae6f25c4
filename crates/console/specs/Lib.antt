pub mod Calls
pub mod Plans
pub mod Chosen
