pub mod Sites
