-- Lemmas about the definitions.
pub mod FactTokens
pub mod Constants
