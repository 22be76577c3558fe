pub mod Named
pub mod Most
