pub mod Issued
pub mod Runs
