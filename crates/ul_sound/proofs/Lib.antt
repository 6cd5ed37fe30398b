pub mod ForCallers
mod Strict
mod Indexes
mod Once
mod RootVersion
mod Reading
mod Soundness
mod Members
mod NoExtra
mod WellFormed
