pub mod Ending
pub mod Arguments
pub mod Linking
