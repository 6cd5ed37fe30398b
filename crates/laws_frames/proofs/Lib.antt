pub mod ForCallers
mod Loading
mod Inputs
