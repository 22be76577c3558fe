pub mod Answered
pub mod Requested
