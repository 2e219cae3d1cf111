-- The keys under which replies are stored: their canonical forms.
use Rattle.std.specs.Prelude.{◌≡◌, ℕ, List}
use Rattle.netlink_core.specs.Bytes.{IsBytes}
use Rattle.netlink_core.specs.Canonical.{CanonicalFails}
use Rattle.netlink_core.specs.declared.canonical_form.CanonError.{CanonError}
use Rattle.netlink_packet_sock_diag.specs.Message.{Message, message_codec}
use Rattle.sock_diag_records.specs.declared.constants.TheConstants.{SOCK_DIAG_BY_FAMILY}

-- `IsKey reply key`: the bytes `reply` parse as a writable message under the type
-- SOCK_DIAG_BY_FAMILY, and `key` are the bytes that this message serializes to
pub record IsKey (reply key : List ℕ) : Type 0 where
  -- each number is below 256
  pub in_range : IsBytes reply
  pub message : Message
  pub parses : message_codec.parses reply SOCK_DIAG_BY_FAMILY message
  pub is_writable : message_codec.is_writable message
  pub serialized : key ≡ message_codec.serialized message

-- `HasKey reply`: the reply has a key: it parses as a writable message (`IsKey`)
abbrev pub HasKey : List ℕ → Type 0
HasKey reply = (key : List ℕ) × IsKey reply key

-- `KeyFails reply e`: what holds if `key` returns the error `e`:
-- - `Refused`: the reply is rejected with the decode error in `e`.
-- - `Unwritable`: the reply parses as a message that is not writable.
-- - `Memory`: the reply parses as a writable message.
abbrev pub KeyFails : List ℕ → CanonError → Type 0
KeyFails reply = CanonicalFails (message_codec.parses reply SOCK_DIAG_BY_FAMILY)
    (message_codec.rejects reply SOCK_DIAG_BY_FAMILY)
    message_codec.is_writable
