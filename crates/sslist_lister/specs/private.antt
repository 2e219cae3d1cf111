-- Definitions that only proofs and the contracts of private functions need.
pub mod Sentence
pub mod JsonNames
