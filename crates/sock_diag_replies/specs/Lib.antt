pub mod UnixResponseSpec
pub mod UnixGetters
pub mod InetResponseSpec
pub mod ReplyFormat
pub mod ResponseModel
pub mod ViewModel
pub mod laws
pub mod private
