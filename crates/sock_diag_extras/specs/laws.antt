-- Lemmas about the definitions.
pub mod Constants
pub mod EqualTcpField
