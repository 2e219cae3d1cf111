-- The entries of a dump that continues after invalid messages.
use Rattle.std.specs.Prelude.{ℕ, List, map, Result, Ok, Err, MatchResult}
use Rattle.netlink_core.specs.Codec.{Codec}
use Rattle.netlink_core.specs.NetlinkMessage.{ParsesAsPayload}
use Rattle.netlink_core.specs.Header.{HasHeader, message_payload}
use Rattle.netlink_core.specs.Items.{Item}
use Rattle.netlink_core.specs.declared.error.DecodeError.{DecodeError}
use Rattle.netlink_core.specs.declared.header.NetlinkHeader.{NetlinkHeader}

-- `as_lossy_entries messages`: the messages as entries of a dump that continues after invalid
-- messages: each is `Ok` of a message, because none is invalid
abbrev pub as_lossy_entries : {A : Type 0} → List A → List (Result A DecodeError)
as_lossy_entries messages = map (λ message. Ok message) messages

-- `HasLossyEntry C message item`: the message starts with a netlink header `h`, and `item` is `Ok`
-- of the payload after it. The payload of an inner message is an entry: `Ok` of its value by the
-- codec `C`, or `Err` of its decode error. The payload of a control message is its bytes, except
-- NLMSG_NOOP, whose bytes are dropped. A message never has an item `Err e`; only bytes that are not
-- a message do.
abbrev pub HasLossyEntry : (C : Codec ℕ) → List ℕ → Item (Result C.Value DecodeError) → Type 0
HasLossyEntry C message (Ok payload) = (h : NetlinkHeader) × HasHeader message h
    × ParsesAsPayload (λ bytes t entry. MatchResult entry (C.parses bytes t) (C.rejects bytes t))
    (message_payload message h) h.message_type payload
HasLossyEntry C message (Err e) = ⊥
