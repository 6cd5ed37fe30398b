pub mod Answer
pub mod Printed
pub mod Views
pub mod Refusals
pub mod Limits
