-- What getters of raw attributes return, and how the value of an attribute is parsed as a record.
use Rattle.std.specs.Prelude.{ℕ, ◌==◌, nat_lt, if◌then◌else◌, List, [], ◌∷◌, drop, length, Option}
use Rattle.std.specs.Prelude.{Some, None, Result, Ok, Err}
use Rattle.byteorder.specs.Endian.{little_number}
use Rattle.netlink_core.specs.Attribute.{Attribute, attribute_kind}
use Rattle.netlink_core.specs.Errors.{map_ok}
use Rattle.netlink_core.specs.declared.error.DecodeError.{DecodeError}
use Rattle.netlink_core.specs.declared.error.DecodeError.TheVariants.{BufferTooSmall}
use Rattle.netlink_core.specs.declared.error.RecordName.{RecordName}

-- `first_value_of_kind kind attributes`: the value of the first attribute of this kind, whatever
-- its two flag bits, or `None` if there is none
abbrev pub first_value_of_kind : ℕ → List Attribute → Option (List ℕ)
first_value_of_kind kind [] = None
first_value_of_kind kind (attribute ∷ later) =
    if attribute_kind attribute == kind then Some attribute.value
    else first_value_of_kind kind later

-- `parse_if_present parses value`: if there is a value, `Ok` of `Some` of what it parses as by
-- `parses`, or `Err` of the error of `parses`. If there is none, `Ok None`.
abbrev pub parse_if_present : {A : Type 0} → (List ℕ → Result A DecodeError) → Option (List ℕ)
    → Result (Option A) DecodeError
parse_if_present parses None = Ok None
parse_if_present parses (Some value) = map_ok Some (parses value)

-- `with_length_at_least name least value`: `Ok` of the value, if it has at least `least` bytes,
-- else `Err` of `BufferTooSmall`, which contains the name, the length and `least`. The value of an
-- attribute has the name `FamilyAttribute family kind`.
abbrev pub with_length_at_least : RecordName → (least : ℕ) → List ℕ → Result (List ℕ) DecodeError
with_length_at_least name least value =
    if nat_lt (length value) least then Err (BufferTooSmall name (length value) least) else Ok value

-- `u32_at offset bytes`: the little-endian `__u32` at the offset. It is used only if the bytes
-- contain it.
abbrev pub u32_at : (offset : ℕ) → List ℕ → ℕ
u32_at offset bytes = little_number 4 (drop offset bytes)

-- `u64_at offset bytes`: the little-endian `__u64` at the offset. It is used only if the bytes
-- contain it.
abbrev pub u64_at : (offset : ℕ) → List ℕ → ℕ
u64_at offset bytes = little_number 8 (drop offset bytes)

-- `parse_if_long_enough name least fields_of value`: `Ok` of the record `fields_of value`, if the
-- value has at least `least` bytes, else `Err` of `BufferTooSmall`, as in `with_length_at_least`.
-- `fields_of` gets the complete value, and may ignore bytes after the first `least`.
abbrev pub parse_if_long_enough : {A : Type 0} → RecordName → (least : ℕ) → (List ℕ → A) → List ℕ
    → Result A DecodeError
parse_if_long_enough name least fields_of value =
    map_ok fields_of (with_length_at_least name least value)
