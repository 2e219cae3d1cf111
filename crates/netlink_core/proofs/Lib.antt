pub mod Numbers
pub mod TableLaws
pub mod LayoutLaws
pub mod SignificantBits
pub mod FieldReads
pub mod Congruence
pub mod Padding
pub mod Iterating
pub mod Splitting
pub mod SplitCases
pub mod Writing
pub mod AttributeTypeLaws
pub mod AttributeContent
pub mod Texts
pub mod PrefixCodecs
pub mod Responses
pub mod HeaderFields
pub mod Headers
pub mod Framing
pub mod Datagrams
pub mod CodecLaws
pub mod Equivalence
pub mod Items
pub mod ValueTests
pub mod Rewriting
mod Walking
mod CompleteIteration
mod CompleteDatagram
