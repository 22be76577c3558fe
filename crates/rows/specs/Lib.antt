pub mod Append
pub mod Initiator
pub mod Table
