pub mod Limits
pub mod Levels
pub mod Noted
pub mod Tallies
pub mod Orders
pub mod Scores
pub mod OrderLaws
pub mod Choices
