-- Which kind of message a payload is.
use Rattle.std.specs.Prelude.{ℕ, ◌==◌, ◌||◌, not, nat_lt, if◌then◌else◌, List, length, slice_index}
use Rattle.std.specs.Prelude.{Result, Ok, Err}
use Rattle.sock_diag_records.specs.declared.constants.TheConstants.{SOCK_DIAG_BY_FAMILY, AF_UNIX}
use Rattle.sock_diag_records.specs.declared.constants.TheConstants.{AF_INET, AF_INET6}
use Rattle.netlink_core.specs.declared.error.DecodeError.{DecodeError}
use Rattle.netlink_core.specs.declared.error.DecodeError.TheVariants as errors

-- The four kinds of messages. Payloads are parsed as replies only: `inet_response` or
-- `unix_response`.
pub data MessageKind : Type 0 where
  inet_request inet_response unix_request unix_response : MessageKind

-- `response_kind payload message_type`: the kind of reply that the payload of a netlink message of
-- this type is, or its error. The errors are checked in this order: fewer than two bytes; a type
-- other than SOCK_DIAG_BY_FAMILY; a first byte (`idiag_family`, `udiag_family`) other than AF_UNIX,
-- AF_INET and AF_INET6. The first error contains the number of bytes, the second the type, the
-- third the first byte. No other byte is considered here.
abbrev pub response_kind : (payload : List ℕ) → (message_type : ℕ) → Result MessageKind DecodeError
response_kind payload message_type =
    let family = slice_index payload 0 in
    if nat_lt (length payload) 2 then Err (errors.MessageTooShort (length payload))
    else if not (message_type == SOCK_DIAG_BY_FAMILY)
    then Err (errors.UnknownMessageType message_type)
    else if family == AF_UNIX then Ok unix_response
    else if (family == AF_INET) || (family == AF_INET6) then Ok inet_response
    else Err (errors.UnknownFamily family)
