pub mod Headline
pub mod Lines
pub mod Trees
pub mod Says
pub mod Answers
pub mod Examples
pub mod Reading
pub mod Diagrams
