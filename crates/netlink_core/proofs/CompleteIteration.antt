-- Iterating over all bytes yields the attributes that they are split into, up to the first framing
-- error.
use Rattle.std.proofs.Common.{arith, Err, Some, ◌≡◌, List, [], ◌∷◌}
use Rattle.std.specs.Prelude.{map}
use Rattle.std.specs.Iterator.{Drains, YieldsThen}
use Rattle.netlink_core.specs.declared.error.DecodeError.{DecodeError}
use Rattle.netlink_core.specs.declared.attribute.NlaBuffer.{NlaBuffer}
use Rattle.netlink_core.specs.declared.attribute.NlasIterator.{NlasIterator}
use Rattle.netlink_core.specs.Attribute.{SplitsIntoAttributes, SplitsUntilError, IsFramingError}
use Rattle.netlink_core.proofs.Iterating.{error_after_attribute}
use Rattle.netlink_core.specs.IteratorStep.{items_without_errors}
use Rattle.netlink_core.specs.Walk.{buffered_attribute, unread_bytes, YieldsAttribute}

pub drained_attributes_are_all : (walk : NlasIterator) (given : List NlaBuffer)
    → Drains YieldsAttribute walk (items_without_errors given)
    → SplitsIntoAttributes (unread_bytes walk) (map buffered_attribute given) []
drained_attributes_are_all walk [] h = rw h.1.1 h.1.2.0
drained_attributes_are_all walk (g ∷ given) h =
    grind (arith, drained_attributes_are_all h.1.1.0 given (h.0, (h.1.0, h.1.1.2, h.1.2)))

pub drained_attributes_before_error : (walk last : NlasIterator) (given : List NlaBuffer)
    (e : DecodeError)
    → YieldsThen YieldsAttribute walk (items_without_errors given) (Some (Err e)) last
    → SplitsUntilError IsFramingError (unread_bytes walk) (map buffered_attribute given) e
    × (unread_bytes last ≡ [])
drained_attributes_before_error walk last [] e h =
    grind arith
drained_attributes_before_error walk last (g ∷ given) e h =
    let later = drained_attributes_before_error h.1.0 last given e (h.0, h.1.2, h.2) in
    (error_after_attribute IsFramingError _ _ _ _ e h.1.1 later.0, later.1)
