pub mod ForCallers
pub mod Orders
pub mod OrderLaws
pub mod Fronts
pub mod Cuts
pub mod Faults
mod Words
pub mod Spelling
pub mod Bounds
pub mod RoundTrip
pub mod Complete
pub mod Longest
pub mod OneSpelling
pub mod VersionAbove
pub mod LawProofs
pub mod Examples
pub mod ByteRuns
