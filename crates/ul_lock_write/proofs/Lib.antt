pub mod ForCallers
mod OverPaths
mod Readable
mod Written
