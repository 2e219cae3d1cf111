-- Definitions that only the contracts of private functions use.
pub mod Text
pub mod View
pub mod ReadDump
pub mod LineRequest
