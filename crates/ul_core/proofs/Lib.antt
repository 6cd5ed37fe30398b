pub mod ForCallers
pub mod Logs
pub mod Looking
pub mod RunsLaw
pub mod TreeParts
pub mod Worked
