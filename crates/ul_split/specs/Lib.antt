pub mod Split
pub mod Laws
pub mod Answers
pub mod Origins
pub mod CoreSplit
pub mod Worlds
pub mod CoreLaws
pub mod CoreAnswers
