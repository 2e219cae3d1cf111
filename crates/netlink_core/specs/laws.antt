-- Lemmas about the definitions, and the definitions that these lemmas need.
pub mod Byte
pub mod LayoutObligations
pub mod ReplyObligations
pub mod Prefix
pub mod AttributeSet
pub mod FirstAttribute
pub mod Equality
pub mod EqualErrors
