pub mod Lists
pub mod Order
pub mod Tables
pub mod Bytes
pub mod Pages
pub mod Tests
