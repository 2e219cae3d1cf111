-- Lemmas about the definitions, and what the lemmas need.
pub mod Record
