pub mod Choosing
pub mod Listed
