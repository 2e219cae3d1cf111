-- Lemmas about the definitions of this crate, and the definitions that only lemmas use.
pub mod Message
pub mod EqualMessage
pub mod DumpEntry
pub mod EqualDumpError
