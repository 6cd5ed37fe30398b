pub mod Once
pub mod LeafLaws
pub mod Found
pub mod ForCallers
pub mod Origins
pub mod Splits
pub mod Worlds
pub mod FailingFacts
