-- Inverses of the layouts: from the numbers in a layout's fields to the value. Only layouts refer
-- to these definitions.
pub mod Vfs
pub mod UnixMemInfo
pub mod LegacyMemInfo
pub mod MemInfo
pub mod TcpInfo
