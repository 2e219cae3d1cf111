-- Definitions of what the getters of a reply about a UNIX socket return. `first_content_of` is
-- about any list, and serves replies about IPv4 and IPv6 sockets too.
use Rattle.std.specs.Prelude.{ℕ, ◌==◌, if◌then◌else◌, List, Option, None, slice_get}
use Rattle.std.specs.List.{filter_map}
use Rattle.netlink_core.specs.AttributeSet.{value_of_kind}
use Rattle.netlink_core.specs.Response.{ReplyValue}
use Rattle.sock_diag_attributes.specs.UnixAttributes.{unix_attribute_set}
use Rattle.sock_diag_records.specs.declared.constants.TheConstants.{TCP_LISTEN, UNIX_DIAG_RQLEN}
use Rattle.sock_diag_replies.specs.UnixResponseSpec.{unix_response_spec}

-- `first_content_of content xs`: `content x` for the first `x` of the list `xs` for which it is a
-- `Some`; `None` if there is no such `x`
abbrev pub first_content_of : {A B : Type 0} → (A → Option B) → List A → Option B
first_content_of content xs = slice_get (filter_map content xs) 0

-- the first of the two numbers of a `UNIX_DIAG_RQLEN` (`struct unix_diag_rqlen` of
-- linux/unix_diag.h)
abbrev pub udiag_rqueue : ℕ × ℕ → ℕ
udiag_rqueue lengths = lengths.0

-- the second of the two numbers of a `UNIX_DIAG_RQLEN`
abbrev pub udiag_wqueue : ℕ × ℕ → ℕ
udiag_wqueue lengths = lengths.1

-- `listening_queue_of v`: the queue lengths of a socket that listens, from the reply `v` about it:
-- the pair (`udiag_rqueue`, `udiag_wqueue`) of the first `UNIX_DIAG_RQLEN` if the state is
-- `TCP_LISTEN`. `None` in every other state, or if there is no such attribute.
abbrev pub listening_queue_of : ReplyValue unix_response_spec → Option (ℕ × ℕ)
listening_queue_of v =
    if v.header.state == TCP_LISTEN
    then first_content_of (value_of_kind unix_attribute_set UNIX_DIAG_RQLEN) v.nlas else None

-- `nonlistening_queue_of v`: the queue lengths of a socket that does not listen, from the reply `v`
-- about it: the pair (`udiag_rqueue`, `udiag_wqueue`) of the first `UNIX_DIAG_RQLEN` if the state
-- is not `TCP_LISTEN`. `None` in the state `TCP_LISTEN`, or if there is no such attribute.
abbrev pub nonlistening_queue_of : ReplyValue unix_response_spec → Option (ℕ × ℕ)
nonlistening_queue_of v =
    if v.header.state == TCP_LISTEN then None
    else first_content_of (value_of_kind unix_attribute_set UNIX_DIAG_RQLEN) v.nlas
