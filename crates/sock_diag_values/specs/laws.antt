-- Lemmas about the definitions, and what the lemmas need.
pub mod MemInfo
pub mod MemInfoEqual
pub mod TcpInfo
pub mod TcpInfoEqual
pub mod PlainLayouts
