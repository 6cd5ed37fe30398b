mod Truths
mod Walked
mod Roots
mod Alone
mod Given
mod Required
mod Rights
mod Exists
