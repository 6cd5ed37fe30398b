pub mod Names
pub mod Nodes
pub mod Kept
pub mod Owned
pub mod Reached
pub mod Increasing
pub mod Examples
