pub mod Headlines
pub mod Numbers
mod ExportedText
pub mod Outputs
