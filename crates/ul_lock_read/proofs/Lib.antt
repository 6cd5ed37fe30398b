pub mod ForCallers
mod Steps
mod Rising
mod Kept
mod Above
mod Finishes
mod Accepts
mod WholeTexts
mod Forms
mod WithoutTargets
mod Answered
mod Halving
