pub mod Halving
pub mod Judged
pub mod Named
pub mod Looked
pub mod Front
