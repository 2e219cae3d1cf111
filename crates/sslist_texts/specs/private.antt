-- Definitions that only the contracts of private functions need.
pub mod Report
