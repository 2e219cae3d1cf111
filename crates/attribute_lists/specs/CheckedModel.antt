-- The iterator that checks attributes: what contracts see of it, and its steps.
use Rattle.std.specs.Prelude.{◌≡◌, ℕ, List, Option, Result, Ok}
use Rattle.netlink_core.specs.declared.error.DecodeError.{DecodeError}
use Rattle.netlink_core.specs.Attribute.{Attribute, IsFirstAttributeError, StartsWithAttribute}
use Rattle.netlink_core.specs.AttributeSet.{AttributeSet, AttributeValue, decode_attribute}
use Rattle.netlink_core.specs.IteratorStep.{YieldsPart}
use Rattle.netlink_core.specs.Walk.{unread_bytes}
use Rattle.attribute_lists.specs.declared.checked.CheckedNlas.{CheckedNlas}

-- `unchecked_bytes nlas`: the bytes that the iterator has neither read nor checked yet
abbrev pub unchecked_bytes : {V : Type 0} → CheckedNlas V → List ℕ
unchecked_bytes nlas = unread_bytes nlas.walk

-- `YieldsDecoded set model old item new`: one call of `next` returns `item`; `old` and `new` are
-- the iterator before and after it. The item is a value whose `model` is what the first attribute
-- of the bytes that are left decodes to by the set; then the bytes after its padding are left. Or
-- it is the first error of these bytes; then no bytes are left. Or it is `None`, and no bytes were
-- left.
abbrev pub YieldsDecoded : {V : Type 0} → (set : AttributeSet) → (V → AttributeValue set)
    → CheckedNlas V → Option (Result V DecodeError) → CheckedNlas V → Type 0
YieldsDecoded set model old item new = YieldsPart
    (λ left value later. (a : Attribute) × StartsWithAttribute left a later
    × (decode_attribute set a ≡ Ok (model value)))
    (IsFirstAttributeError (decode_attribute set))
    (unchecked_bytes old) item (unchecked_bytes new)
