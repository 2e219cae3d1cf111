pub mod Operations
pub mod Stepping
pub mod Auditing
pub mod Running
pub mod LastAttributes
pub mod Requesting
pub mod ReadBack
pub mod RequestFamily
pub mod AnyReadBack
pub mod Finding
pub mod Verdicts
mod Ending
mod NewPrefix
pub mod ReadingTexts
pub mod ReadingSteps
pub mod ReadTexts
pub mod Completing
pub mod Parsing
pub mod LastParts
pub mod Evaluating
pub mod ParsingText
pub mod WrittenPrograms
