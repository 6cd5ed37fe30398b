pub mod Pieces
pub mod Lines
pub mod Faults
pub mod Reader
pub mod Examples
