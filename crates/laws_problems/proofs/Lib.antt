pub mod ForCallers
mod Deciding
mod Zips
mod Closure
mod Sorted
mod Leading
mod Preferring
mod Drafting
mod Standing
mod SingleVersion
mod Whole
