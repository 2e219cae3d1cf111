pub mod Finding
pub mod FirstAttribute
pub mod Checking
pub mod SecondAttributeSet
mod EncodedAttributes
mod Measuring
