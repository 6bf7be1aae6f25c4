pub mod Told
pub mod Listings
pub mod Answered
