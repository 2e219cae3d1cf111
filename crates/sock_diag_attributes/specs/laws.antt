-- Lemmas about the definitions of this crate, and the definitions that only lemmas use.
pub mod Name
pub mod Number
pub mod UnixAttribute
pub mod Text
pub mod Flag
pub mod InetAttribute
pub mod Variant
pub mod AttributeParts
pub mod EqualName
pub mod EqualUnix
pub mod EqualInet
