pub mod RowOrder
pub mod IdOrder
pub mod OwnRows
pub mod PageLaws
pub mod PageSizes
pub mod Answering
pub mod InOrder
pub mod Written
