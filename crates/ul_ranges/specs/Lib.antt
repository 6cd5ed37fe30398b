pub mod Flags
pub mod Blocks
pub mod Marks
pub mod Operations
pub mod Forms
pub mod Pieces
pub mod Examples
