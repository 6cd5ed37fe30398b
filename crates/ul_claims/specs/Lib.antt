pub mod Headline
pub mod Seats
pub mod Rule
pub mod Claimed
pub mod Vectors
