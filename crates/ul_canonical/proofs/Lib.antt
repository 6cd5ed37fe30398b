mod Said
mod Plain
mod Grown
mod Told
mod TreeTexts
mod Printed
mod Answered
pub mod ForCallers
