pub mod ForCallers
pub mod Agreeing
pub mod Memory
pub mod ListedFiles
mod Walks
