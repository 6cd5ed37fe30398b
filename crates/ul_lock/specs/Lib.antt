pub mod Region
pub mod Orders
pub mod Increasing
pub mod Targets
pub mod WellFormed
pub mod Walk
