pub mod Headline
pub mod TextOf
pub mod ShapedTexts
pub mod Shaped
pub mod Laws
pub mod Automaton
pub mod Answers
pub mod Finding
