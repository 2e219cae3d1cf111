pub mod Streams
pub mod Lines
pub mod LineRun
pub mod ErrorText
pub mod private
pub mod laws
