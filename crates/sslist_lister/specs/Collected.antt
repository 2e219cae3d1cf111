-- The attributes of a reply, sorted: the first valid attribute of a kind counts, and each one that
-- is invalid or unknown is listed. An item (`Item` of `sock_diag_any`) is an attribute and what
-- it says, or a rejection.
use Rattle.std.specs.Prelude.{ℕ, ◌≡◌, ◌==◌, ◌&&◌, if◌then◌else◌, Bool, false, List, [], ◌∷◌}
use Rattle.std.specs.Prelude.{map, Option, None, Some, option_map, Result, Ok, Err, slice_index_or}
use Rattle.std.specs.Prelude.{flat_map, is_none, length, nat_lt, slice_set}
use Rattle.std.specs.List.{range_with_len}
use Rattle.std.specs.Option.{option_map_or}
use Rattle.netlink_core.specs.Attribute.{Attribute, attribute_kind}
use Rattle.netlink_core.specs.Walk.{buffered_attribute}
use Rattle.netlink_core.specs.declared.attribute.NlaBuffer.{NlaBuffer}
use Rattle.netlink_core.specs.declared.error.DecodeError.{DecodeError}
use Rattle.sslist_lister.specs.AttributeFacts.{value_status}
use Rattle.sock_diag_any.specs.AnyItems.{Item, items_in}
use Rattle.sock_diag_any.specs.AnyNla.{AnyValue, any_model}
use Rattle.sock_diag_any.specs.Pieces.{framing_error_of, pieces_in}
use Rattle.sock_diag_any.specs.declared.nla.AnyNla.{AnyNla}
use Rattle.sock_diag_any.specs.declared.nla.Sockets.{Sockets}
use Rattle.sslist_lister.specs.declared.collected.Attributes.{Attributes}
use Rattle.sslist_lister.specs.declared.collected.TheConstants.{KINDS}

-- What a reply has in its attributes.
pub record Summary : Type 0 where
  -- the kind of sockets that the reply is about
  pub sockets : Sockets
  -- for each kind from 0 to KINDS - 1 the kind (`.0`) of the first valid attribute and what it says
  -- (`.1`), or None
  pub first : List (Option (ℕ × AnyValue))
  -- each unknown or invalid attribute, in the order of the bytes, and its status (`value_status`):
  -- `Ok false` if its kind is unknown or INET_DIAG_SK_BPF_STORAGES, or the error of its value
  pub others : List (Attribute × Result Bool DecodeError)
  -- the error of the bytes after the last attribute, if there are any
  pub end : Option DecodeError

-- the status is that of a valid attribute, which has facts
abbrev pub is_valid : Result Bool DecodeError → Bool
is_valid (Ok has_facts) = has_facts
is_valid (Err e) = false

-- `first_valid items k`: the kind and what it says of the first valid attribute of the kind `k`, or
-- None
abbrev pub first_valid : List Item → ℕ → Option (ℕ × AnyValue)
first_valid [] k = None
first_valid (Ok read ∷ later) k =
    if is_valid (value_status read.1) && (attribute_kind read.0 == k)
    then Some (attribute_kind read.0, read.1) else first_valid later k
first_valid (Err rejected ∷ later) k = first_valid later k

-- the attribute of an item and its status, if it is unknown or invalid, or else nothing. Also
-- nothing for bytes that are not an attribute: their error is the member `end` of a summary.
abbrev pub other_in_item : Item → List (Attribute × Result Bool DecodeError)
other_in_item (Ok read) =
    if is_valid (value_status read.1) then [] else (read.0, value_status read.1) ∷ []
other_in_item (Err rejected) =
    option_map_or (λ a. (a, Err rejected.error) ∷ []) rejected.attribute []

-- `summary_of sockets bytes`: what a reply about these sockets has in the attributes in the bytes.
-- `range_with_len 0 KINDS` are the kinds from 0 to KINDS - 1.
unfoldable pub summary_of : Sockets → List ℕ → Summary
summary_of sockets bytes = record {
  sockets = sockets;
  first = map (first_valid (items_in sockets bytes)) (range_with_len 0 KINDS);
  others = flat_map other_in_item (items_in sockets bytes);
  end = framing_error_of (pieces_in bytes);
}

-- ---- collected attributes

-- what a slot of collected attributes (`FirstValid` of `src/collected.rt`) has: the kind of an
-- attribute and what it says; None if the slot is empty
abbrev pub slot_value : Option (ℕ × AnyNla) → Option (ℕ × AnyValue)
slot_value slot = option_map (λ valid. (valid.0, any_model valid.1)) slot

-- the attribute and the status of an element of `others` of collected attributes
abbrev pub other_model : NlaBuffer × Result Bool DecodeError → Attribute × Result Bool DecodeError
other_model other = (buffered_attribute other.0, other.1)

-- what collected attributes (`Attributes` of `src/collected.rt`) have
abbrev pub collected : Attributes → Summary
collected found = record {
  sockets = found.sockets;
  first = map slot_value found.first.slots;
  others = map other_model found.others.items;
  end = found.end;
}

-- Nothing is collected yet: each of the KINDS slots is empty, there is no unknown or invalid
-- attribute, and no error. `slice_index_or slots k None` is the slot at `k`, or None past the end.
abbrev pub HasNone : Attributes → Type 0
HasNone found =
    (length found.first.slots ≡ KINDS)
    × ((k : ℕ) → slice_index_or found.first.slots k None ≡ None)
    × (found.others.items ≡ []) × (found.end ≡ None)

-- `value_in kind s`: what the first valid attribute of this kind says, or None
abbrev pub value_in : ℕ → Summary → Option AnyValue
value_in kind s = option_map (λ valid. valid.1) (slice_index_or s.first kind None)

-- `with_element slots index value`: the slots, of which the one at this index is set to `value` if
-- it is empty. They are unchanged if it is not, or if the index is past the end.
abbrev pub with_element : {Value : Type 0} → List (Option Value) → ℕ → Value → List (Option Value)
with_element slots index value =
    if nat_lt index (length slots) && is_none (slice_index_or slots index None)
    then slice_set slots index (Some value) else slots
