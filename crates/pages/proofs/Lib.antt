pub mod Descriptors
pub mod Forms
pub mod Walking
