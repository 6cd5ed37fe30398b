pub mod Words
pub mod Environments
pub mod Exports
