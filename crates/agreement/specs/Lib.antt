pub mod Calls
pub mod Parts
pub mod Sheets
pub mod Agreement
