-- The iterators over the messages of a datagram: their states and their steps.
use Rattle.std.specs.Prelude.{◌≡◌, ℕ, List, drop, length, map, Option, Result}
use Rattle.std.specs.Borrow.{Bor}
use Rattle.netlink_core.specs.declared.error.DecodeError.{DecodeError}
use Rattle.netlink_core.specs.declared.header.NetlinkHeader.{NetlinkHeader}
use Rattle.netlink_core.specs.declared.datagram.FramedMessages.{FramedMessages}
use Rattle.netlink_core.specs.declared.datagram.MessageStrings.{MessageStrings}
use Rattle.netlink_core.specs.Header.{HasHeader, IsMessageError}
use Rattle.netlink_core.specs.Datagram.{StartsWithMessage}
use Rattle.netlink_core.specs.IteratorStep.{YieldsPart}

-- `unread_messages messages`: the bytes that a `FramedMessages` has not read yet: those from the
-- offset of the next message on. This iterator yields the header and the bytes of each message.
abbrev pub unread_messages : FramedMessages → List ℕ
unread_messages messages = drop messages.at messages.bytes.now

-- `unread_datagram strings`: the bytes that a `MessageStrings` has not read yet. This iterator
-- yields only the bytes of each message.
abbrev pub unread_datagram : MessageStrings → List ℕ
unread_datagram strings = unread_messages strings.messages

-- `borrowed_messages yielded`: the bytes of each message that the iterator has yielded. `yielded`
-- are the borrowed slices.
abbrev pub borrowed_messages : List (Bor (List ℕ)) → List (List ℕ)
borrowed_messages yielded = map (λ (message : Bor (List ℕ)). message.now) yielded

-- `YieldsMessage old item new`: one call of `next` returns `item`; `old` and `new` are the iterator
-- before and after it. The item is the bytes of the first message of the bytes that are left; then
-- the bytes after its padding are left. Or it is the error of these bytes; then no bytes are left.
-- Or it is `None`, and no bytes were left.
abbrev pub YieldsMessage : MessageStrings → Option (Result (Bor (List ℕ)) DecodeError)
    → MessageStrings → Type 0
YieldsMessage old item new =
    YieldsPart (λ left message later. StartsWithMessage left message.now later) IsMessageError
    (unread_datagram old) item (unread_datagram new)

-- `StartsWithFramedMessage bytes framed rest`: the bytes are a message, its padding, and `rest`;
-- `framed` is the pair of the message's header and the bytes of the message, header included, as
-- many as the length field of the header says
abbrev pub StartsWithFramedMessage : List ℕ → NetlinkHeader × Bor (List ℕ) → List ℕ → Type 0
StartsWithFramedMessage bytes framed rest = let (header, message) = framed in
    StartsWithMessage bytes message.now rest
    × HasHeader message.now header × (header.length ≡ length message.now)

-- `YieldsFramedMessage old item new`: one call of `next` returns `item`; `old` and `new` are the
-- iterator before and after it. The item is the header and the bytes of the first message of the
-- bytes that are left; then the bytes after its padding are left. Or it is the error of these
-- bytes; then no bytes are left. Or it is `None`, and no bytes were left.
abbrev pub YieldsFramedMessage : FramedMessages
    → Option (Result (NetlinkHeader × Bor (List ℕ)) DecodeError)
    → FramedMessages → Type 0
YieldsFramedMessage old item new =
    YieldsPart StartsWithFramedMessage IsMessageError
    (unread_messages old) item (unread_messages new)
