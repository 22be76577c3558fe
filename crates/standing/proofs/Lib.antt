pub mod Chunks
pub mod Live
pub mod Pairs
pub mod Setup
