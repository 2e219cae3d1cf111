-- Definitions that only the contracts of private functions use.
pub mod Headers
pub mod Rows
