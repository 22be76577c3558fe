pub mod Endings
pub mod Changes
