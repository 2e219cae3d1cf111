mod FirstErrors
mod Framing
mod PortKinds
pub mod AnyAgreement
pub mod PieceWalk
