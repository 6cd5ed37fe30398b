pub mod Written
pub mod Nameable
pub mod ForCallers
