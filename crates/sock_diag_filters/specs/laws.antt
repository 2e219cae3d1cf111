-- Lemmas about the definitions.
pub mod Constants
pub mod EqualCondition
pub mod AddressText
pub mod EqualPart
pub mod StateGroups
