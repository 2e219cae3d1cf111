pub mod Readme
pub mod ListeningTcp
pub mod Stored
pub mod Lister
pub mod Link
pub mod TestKernel
pub mod UnixResponseModel
pub mod private
