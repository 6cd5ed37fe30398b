pub mod ForCallers
pub mod CoreClaims
pub mod Keeping
pub mod Numbers
pub mod Drawing
pub mod Gathered
pub mod Worked
