-- Lemmas about the definitions.
pub mod LongNames
pub mod Constants
