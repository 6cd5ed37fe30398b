pub mod Fields
pub mod Truth
pub mod Grammar
pub mod Laws
pub mod Reading
pub mod Vectors
pub mod Answers
