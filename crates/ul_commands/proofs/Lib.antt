mod ProofFaults
mod Judgements
mod MarkerFiles
mod Mergeable
mod Answering
mod Served
mod Written
mod Replies
mod OfQuestions
mod Counting
mod Accepted
mod ForkAnswers
mod Verdicts
mod RootExtras
mod Relocked
pub mod ForCallers
