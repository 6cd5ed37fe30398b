pub mod Plain
pub mod Levels
pub mod Reduced
pub mod Apply
pub mod Keys
pub mod Rows
pub mod Closing
