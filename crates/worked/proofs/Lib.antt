pub mod Tables
pub mod Computed
