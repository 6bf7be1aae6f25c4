pub mod Texts
pub mod Cursors
pub mod Laws
