pub mod Aims
pub mod Runs
pub mod Reach
pub mod Ranks
pub mod Facts
pub mod Placed
pub mod Laws
