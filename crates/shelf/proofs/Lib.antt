pub mod Calls
pub mod Crossings
pub mod Named
pub mod Parts
