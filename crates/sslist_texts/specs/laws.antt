-- Lemmas about the definitions.
pub mod EqualListError
pub mod MemberTokens
pub mod Constants
