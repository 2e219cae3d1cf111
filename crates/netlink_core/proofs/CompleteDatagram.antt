-- Iterating over a whole datagram yields the messages that it is split into.
use Rattle.std.proofs.Common.{arith, Err, Some, None, ◌≡◌, ℕ, List, [], ◌∷◌}
use Rattle.std.specs.Borrow.{Bor}
use Rattle.std.specs.Iterator.{Drains, YieldsThen}
use Rattle.netlink_core.specs.declared.error.DecodeError.{DecodeError}
use Rattle.netlink_core.specs.declared.datagram.MessageStrings.{MessageStrings}
use Rattle.netlink_core.specs.Datagram.{SplitsIntoMessages}
use Rattle.netlink_core.specs.IteratorStep.{items_without_errors}
use Rattle.netlink_core.specs.DatagramWalk.{borrowed_messages, unread_datagram, YieldsMessage}

pub drained_messages_are_all : (walk : MessageStrings) (given : List (Bor (List ℕ)))
    → Drains YieldsMessage walk (items_without_errors given)
    → SplitsIntoMessages (unread_datagram walk) (borrowed_messages given) None
drained_messages_are_all walk [] h = rw h.1.1 h.1.2.0
drained_messages_are_all walk (g ∷ given) h =
    grind (arith, drained_messages_are_all h.1.1.0 given (h.0, (h.1.0, h.1.1.2, h.1.2)))

pub drained_messages_before_error : (walk last : MessageStrings) (given : List (Bor (List ℕ)))
    (e : DecodeError)
    → YieldsThen YieldsMessage walk (items_without_errors given) (Some (Err e)) last
    → SplitsIntoMessages (unread_datagram walk) (borrowed_messages given) (Some e)
    × (unread_datagram last ≡ [])
drained_messages_before_error walk last [] e h = rw h.1 ((h.2.0, h.2.1), h.2.2)
drained_messages_before_error walk last (g ∷ given) e h =
    grind (arith, drained_messages_before_error h.1.0 last given e (h.0, h.1.2, h.2))
