-- Lemmas about the definitions, and what the lemmas need.
pub mod UnixRequest
pub mod SocketId
pub mod UnixResponseHeader
pub mod InetRequest
pub mod InetResponse
pub mod EqualRecord
