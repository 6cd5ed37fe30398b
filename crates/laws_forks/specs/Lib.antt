pub mod Exists
