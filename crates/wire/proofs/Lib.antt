pub mod Comparing
pub mod Numbers
pub mod Writing
