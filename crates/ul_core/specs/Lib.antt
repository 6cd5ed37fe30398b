pub mod Headline
pub mod Trees
pub mod Hashes
pub mod Core
pub mod Steps
pub mod Laws
pub mod Vectors
pub mod TreeCode
