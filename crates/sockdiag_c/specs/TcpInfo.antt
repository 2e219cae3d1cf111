-- The bytes of `struct tcp_info` and `struct mptcp_info`.
use Rattle.std.specs.Prelude.{ℕ, ◌==◌, if◌then◌else◌, List, drop, [], Option, Some, None}
use Rattle.std.specs.Prelude.{unwrap_or}
use Rattle.netlink_core.specs.Attribute.{Attribute, attribute_kind}
use Rattle.netlink_core.specs.declared.error.DecodeError.{DecodeError}
use Rattle.sock_diag_records.specs.declared.inet.response.TheConstants.{INET_RESPONSE_HEADER_LEN}
use Rattle.sock_diag_replies.specs.UnixGetters.{first_content_of}
use Rattle.sockdiag_c.specs.Family.{SplitsWithError}

-- `AreAttributesIn bytes attributes`: `attributes` are the attributes at the start of the bytes, in
-- order: all of them, or those before a framing error (`end`)
abbrev pub AreAttributesIn : List ℕ → List Attribute → Type 0
AreAttributesIn bytes attributes = (end : Option DecodeError) × SplitsWithError attributes end bytes

-- `AreInetReplyAttributes payload attributes`: `attributes` are the attributes after the header of
-- a reply about an IPv4 or IPv6 socket, up to the end or to a framing error. A clause that begins
-- with `(attributes : List Attribute) → AreInetReplyAttributes payload attributes →` is about these
-- attributes of the payload.
abbrev pub AreInetReplyAttributes : List ℕ → List Attribute → Type 0
AreInetReplyAttributes payload attributes =
    AreAttributesIn (drop INET_RESPONSE_HEADER_LEN payload) attributes

-- `bytes_of_kind kind a`: the value of the attribute `a` if it has this kind, whatever its two flag
-- bits; else None
abbrev pub bytes_of_kind : ℕ → Attribute → Option (List ℕ)
bytes_of_kind kind a = if attribute_kind a == kind then Some a.value else None

-- `first_bytes_of_kind kind attributes`: the value of the first attribute of this kind; no bytes
-- (`[]`) if there is none
abbrev pub first_bytes_of_kind : ℕ → List Attribute → List ℕ
first_bytes_of_kind kind attributes =
    unwrap_or (first_content_of (bytes_of_kind kind) attributes) []
