-- How a datagram is split into netlink messages, and the first error of bytes that do not begin
-- with a message.
use Rattle.std.specs.Prelude.{◌≡◌, ◌≢◌, ℕ, ◌<◌, ◌≤◌, ◌⊎◌, List, [], ◌∷◌, ◌++◌, length, Option, Some}
use Rattle.std.specs.Prelude.{None}
use Rattle.netlink_core.specs.declared.error.DecodeError.{DecodeError}
use Rattle.netlink_core.specs.Attribute.{padding_length}
use Rattle.netlink_core.specs.Header.{IsMessageError, message_length_in}

-- `StartsWithMessage bytes message rest`: the bytes are the message, its padding, and `rest`
-- (`parts`). The message has at least the 16 bytes of a header, and as many bytes as its
-- `nlmsg_len` says (`whole`). The other fields of the header and the payload are not considered.
-- The padding may have any content. It is complete, up to a multiple of four; it may be shorter
-- only if `rest` is empty (`filled`).
pub record StartsWithMessage (bytes message rest : List ℕ) : Type 0 where
  pub padding : List ℕ
  pub parts : bytes ≡ message ++ (padding ++ rest)
  pub whole : (16 ≤ length message) × (message_length_in message ≡ length message)
  pub filled : (length padding ≡ padding_length (length message))
      ⊎ ((length padding < padding_length (length message)) × (rest ≡ []))

-- `SplitsIntoMessages bytes messages end`: the bytes are these messages, consecutive and each with
-- its padding. If `end` is `None`, no bytes follow. If it is `Some e`, other bytes follow, at least
-- one, which do not begin with a message; `e` is their error.
abbrev pub SplitsIntoMessages : List ℕ → List (List ℕ) → Option DecodeError → Type 0
SplitsIntoMessages bytes [] None = bytes ≡ []
SplitsIntoMessages bytes [] (Some e) = (bytes ≢ []) × IsMessageError bytes e
SplitsIntoMessages bytes (message ∷ later) end =
    (rest : List ℕ) × StartsWithMessage bytes message rest × SplitsIntoMessages rest later end
