pub mod ForCallers
mod Indexes
mod Levels
mod Choices
mod Edges
mod Extras
mod Blocks
mod Exists
