pub mod Places
pub mod Support
pub mod Claims
pub mod Verdicts
pub mod Passes
