pub mod Pieces
pub mod AnyNla
pub mod AnyParts
pub mod AnyItems
pub mod AnyHeader
pub mod AnyReply
pub mod AnyAgreement
