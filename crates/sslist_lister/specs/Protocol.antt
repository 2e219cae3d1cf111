-- The protocol of an IPv4 or IPv6 socket. `s` is what a reply has in its attributes.
use Rattle.std.specs.Prelude.{ℕ, ◌==◌, if◌then◌else◌, Bool, false, Option, option_and_then}
use Rattle.std.specs.Option.{option_map_or, option_or}
use Rattle.sock_diag_any.specs.AnyParts.{socket_protocol_of}
use Rattle.sock_diag_records.specs.declared.constants.TheConstants.{INET_DIAG_PROTOCOL}
use Rattle.sock_diag_records.specs.declared.constants.TheConstants.{IPPROTO_RAW}
use Rattle.sslist_lister.specs.Collected.{Summary, value_in}

-- the request is for raw sockets; false if its protocol is not known (None)
abbrev pub is_for_raw : Option ℕ → Bool
is_for_raw requested = option_map_or (λ protocol. protocol == IPPROTO_RAW) requested false

-- `protocol_in requested s`: the protocol of the socket that a reply is about; None if it is not
-- known. It is the first valid INET_DIAG_PROTOCOL of the reply, or else `requested`, the protocol
-- of the request, if that is known. If the request is for raw sockets, the attribute is the
-- protocol of their packets, and the protocol of the socket is IPPROTO_RAW.
abbrev pub protocol_in : Option ℕ → Summary → Option ℕ
protocol_in requested s =
    if is_for_raw requested then requested
    else option_or (option_and_then socket_protocol_of (value_in INET_DIAG_PROTOCOL s)) requested
