pub mod Headline
pub mod Sound
pub mod Merged
pub mod Leaves
pub mod Indexes
