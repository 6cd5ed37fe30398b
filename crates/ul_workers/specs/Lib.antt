pub mod WorkerCount
pub mod Headline
pub mod Work
pub mod InThreads
