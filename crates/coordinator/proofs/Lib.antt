pub mod Answering
pub mod Asking
pub mod Setting
pub mod Supported
