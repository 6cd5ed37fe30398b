pub mod Lists
pub mod Needs
pub mod Rights
pub mod Rows
pub mod Facts
