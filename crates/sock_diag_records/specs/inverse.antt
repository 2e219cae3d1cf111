-- Inverses of the layouts: from the numbers in a layout's fields to the value. Besides layouts and
-- proofs, only the contract of the private function `timer_from` refers to one, `timer_of`.
pub mod UnixRequest
pub mod SocketId
pub mod UnixResponseHeader
pub mod InetRequest
pub mod InetResponse
