pub mod Meanings
pub mod Hexadecimals
pub mod Numerals
pub mod Rules
pub mod Wording
pub mod Names
pub mod Wishes
