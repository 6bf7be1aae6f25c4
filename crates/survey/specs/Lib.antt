pub mod Words
pub mod Surveys
pub mod Reports
pub mod Reached
pub mod Laws
