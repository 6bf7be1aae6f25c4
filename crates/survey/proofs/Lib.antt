pub mod Numerals
pub mod Links
pub mod Counts
pub mod Leads
pub mod Surveyed
pub mod Said
pub mod Judged
