pub mod Answered
pub mod Again
pub mod Settled
pub mod Harmless
pub mod LockedAgain
pub mod Texts
