pub mod Compression
pub mod Capture
pub mod Cooked
pub mod Pcapng
pub mod Reader
pub mod ErrorText
pub mod laws
pub mod private
