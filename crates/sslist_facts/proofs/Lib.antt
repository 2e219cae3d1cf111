pub mod FactItems
pub mod Rows
pub mod RecordLists
