pub mod Crossing
pub mod Layout
