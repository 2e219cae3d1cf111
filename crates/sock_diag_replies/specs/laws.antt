-- Lemmas about the definitions of this crate, and the definitions that only lemmas use.
pub mod UnixResponseSpec
pub mod InetResponseSpec
pub mod EqualResponse
pub mod Header
pub mod OneValue
