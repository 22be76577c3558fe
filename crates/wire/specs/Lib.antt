pub mod Lun
pub mod Write
