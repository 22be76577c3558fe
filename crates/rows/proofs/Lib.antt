pub mod Appending
pub mod Clashing
pub mod Initiator
pub mod Proxies
