pub mod AcceptedValues
pub mod Reading
