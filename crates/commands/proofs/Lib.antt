pub mod Digits
pub mod NumberSteps
pub mod Phrases
pub mod NameSteps
