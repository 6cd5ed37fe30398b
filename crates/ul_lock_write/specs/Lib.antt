pub mod Headline
pub mod Texts
pub mod Sheet
pub mod Markers
pub mod Readable
pub mod Written
pub mod TextLimit
