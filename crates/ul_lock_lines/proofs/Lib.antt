pub mod ForCallers
mod Ascii
mod Escapes
mod LinesOfTexts
mod Markers
mod LineLaws
mod TypedLaws
