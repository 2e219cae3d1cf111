-- Iterating over all bytes and checking each attribute yields the values of the bytes, or ends with
-- their first error.
use Rattle.std.proofs.Common.{Err, Some, ◌≡◌, List, [], ◌∷◌}
use Rattle.std.specs.Prelude.{map}
use Rattle.std.specs.Iterator.{Drains, YieldsThen}
use Rattle.netlink_core.specs.declared.error.DecodeError.{DecodeError}
use Rattle.netlink_core.specs.Attribute.{DecodeTo, HasAttributeError}
use Rattle.netlink_core.specs.AttributeSet.{AttributeSet, AttributeValue, decode_attribute}
use Rattle.netlink_core.specs.IteratorStep.{items_without_errors}
use Rattle.netlink_core.specs.Walk.{unread_bytes}
use Rattle.netlink_core.proofs.Iterating.{error_of_rest, error_of_first_attribute}
use Rattle.attribute_lists.specs.CheckedModel.{YieldsDecoded}
use Rattle.attribute_lists.specs.declared.checked.CheckedNlas.{CheckedNlas}

module _ {V : Type 0} (F : AttributeSet) (model : V → AttributeValue F) where
  pub checked_items_are_all : (walk : CheckedNlas V) (given : List V)
      → Drains (YieldsDecoded F model) walk (items_without_errors given)
      → DecodeTo (decode_attribute F) (unread_bytes walk.walk) (map model given)
  checked_items_are_all walk [] h = ([], rw h.1.1 h.1.2.0, tt)
  checked_items_are_all walk (g ∷ given) h =
      let first = h.1.1.1 in
      let later = checked_items_are_all h.1.1.0 given (h.0, (h.1.0, h.1.1.2, h.1.2)) in (
        first.0 ∷ later.0,
        (unread_bytes h.1.1.0.walk, first.1, later.1),
        (first.2, later.2),
      )

  pub checked_items_before_error : (walk last : CheckedNlas V) (given : List V) (e : DecodeError)
      → YieldsThen (YieldsDecoded F model) walk (items_without_errors given)
      (Some (Err e)) last
      → HasAttributeError (decode_attribute F) (unread_bytes walk.walk) e
      × (unread_bytes last.walk ≡ [])
  checked_items_before_error walk last [] e h =
      let at : YieldsDecoded F model walk (Some (Err e)) last = rw h.1 h.2 in
      (error_of_first_attribute (decode_attribute F) (unread_bytes walk.walk) e at.0 at.1, at.2)
  checked_items_before_error walk last (g ∷ given) e h =
      let first = h.1.1 in
      let later = checked_items_before_error h.1.0 last given e (h.0, h.1.2, h.2) in (
        error_of_rest (decode_attribute F) (unread_bytes walk.walk)
            (unread_bytes h.1.0.walk) first.0 (model g) e
            first.1 first.2 later.0,
        later.1,
      )
