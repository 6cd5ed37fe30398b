pub mod Pins
pub mod Requirements
pub mod Lines
pub mod Examples
