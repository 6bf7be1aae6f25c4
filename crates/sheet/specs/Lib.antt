pub mod Plans
pub mod Encoding
pub mod Fields
pub mod Decoding
pub mod Places
pub mod Calls
pub mod Parts
pub mod Sites
