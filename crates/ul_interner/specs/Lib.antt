pub mod Headline
pub mod Marked
pub mod Known
pub mod Logs
pub mod Rule
pub mod Laws
pub mod Index
pub mod Vectors
