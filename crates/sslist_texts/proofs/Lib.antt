pub mod Adding
pub mod HexDigits
pub mod JsonWriting
pub mod UtcTimes
pub mod Utf8Names
pub mod ShownNames
pub mod VisibleNames
pub mod Reporting
