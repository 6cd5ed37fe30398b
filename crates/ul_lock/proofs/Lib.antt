pub mod ForCallers
mod AllWorlds
mod Walks
