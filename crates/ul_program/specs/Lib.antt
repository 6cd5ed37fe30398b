pub mod Answer
pub mod Exported
pub mod Headline
pub mod Words
pub mod Given
