pub mod Drawn
pub mod Linked
pub mod Moves
