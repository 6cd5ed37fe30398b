pub mod Counting
pub mod Reading
pub mod Opened
pub mod PathReads
pub mod NoMap
