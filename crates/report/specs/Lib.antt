pub mod Rows
pub mod Each
