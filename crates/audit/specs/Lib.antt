pub mod Ledger
pub mod Cells
pub mod Sentence
pub mod Deeds
pub mod Following
pub mod Room
