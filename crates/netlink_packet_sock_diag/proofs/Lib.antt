pub mod Lengths
pub mod NetlinkMessages
pub mod Dumping
pub mod DumpRows
pub mod LossyDumps
pub mod Feeding
pub mod CompleteViews
mod EqualPayloads
mod Rewriting
