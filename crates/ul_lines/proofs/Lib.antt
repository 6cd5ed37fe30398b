pub mod ForCallers
mod LinePieces
mod TextLines
mod Reading
mod Faults
