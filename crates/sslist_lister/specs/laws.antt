-- Lemmas about the definitions.
pub mod Constants
