pub mod Spilling
pub mod Streaming
pub mod Whole
