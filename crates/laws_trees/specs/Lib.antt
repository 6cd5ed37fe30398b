pub mod Trees
pub mod Decided
