pub mod ForCallers
mod Deciding
mod Sameness
mod Ordered
mod Flags
mod Catalogs
mod Reaching
mod Known
mod MarkerTrees
mod Truths
mod Regions
mod StatementTrees
mod Applied
