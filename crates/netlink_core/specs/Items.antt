-- The items of a datagram: the payloads and the errors of its messages.
use Rattle.std.specs.Prelude.{◌≡◌, ℕ, List, ◌++◌, Option, option_map, Result, Err, MatchResult}
use Rattle.std.specs.Option.{option_to_list}
use Rattle.std.specs.List.{AllZip}
use Rattle.netlink_core.specs.declared.error.DecodeError.{DecodeError}
use Rattle.netlink_core.specs.declared.header.NetlinkHeader.{NetlinkHeader}
use Rattle.netlink_core.specs.Datagram.{SplitsIntoMessages}
use Rattle.netlink_core.specs.Codec.{Codec}
use Rattle.netlink_core.specs.NetlinkMessage.{Payload, netlink_codec}

-- `Item A`: an item of a datagram: `Ok` of the payload of a message, or `Err` of its error; an
-- inner message in the payload is an `A`
abbrev pub Item : Type 0 → Type 0
Item A = Result (Payload A) DecodeError

-- `IsItemOf C message item`: `item` is the item of `message`, the bytes of one netlink message. If
-- it is `Ok`, the bytes parse as some header and this payload; if it is `Err`, they are rejected
-- with this error. `C` is the codec of inner messages, whose parameter is the message type; the
-- codec of netlink messages has no parameter (`tt`).
abbrev pub IsItemOf : (C : Codec ℕ) → (message : List ℕ) → Item C.Value → Type 0
IsItemOf C message item = MatchResult item
    (λ payload. (header : NetlinkHeader) × (netlink_codec C).parses message tt
    (record { header = header; payload = payload })) ((netlink_codec C).rejects message tt)

-- `AreItemsOf is_item bytes items`: these are the items of the datagram `bytes`: one for each
-- message, in order, with `is_item message item`; and then, if bytes are left that do not begin
-- with a message, `Err` of the error of these bytes (`end`)
abbrev pub AreItemsOf : {A : Type 0} → (List ℕ → Item A → Type 0) → List ℕ → List (Item A) → Type 0
AreItemsOf {A} is_item bytes items = (messages : List (List ℕ)) × (end : Option DecodeError)
    × (message_items : List (Item A)) × SplitsIntoMessages bytes messages end
    × AllZip is_item messages message_items
    × (items ≡ message_items ++ option_to_list (option_map Err end))
