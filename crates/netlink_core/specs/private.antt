-- Definitions that only the contracts of private functions of `sock_diag_replies` need.
pub mod Response
