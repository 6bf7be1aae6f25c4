pub mod Removals
pub mod Calls
pub mod Stations
pub mod Peeling
