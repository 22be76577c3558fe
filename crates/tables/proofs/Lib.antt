pub mod Listing
pub mod Enrolling
