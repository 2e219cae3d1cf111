-- Layouts of records in bytes, by rows.
use Rattle.std.specs.Prelude.{◌≡◌, ◌≤◌, ⊤, ℕ, nat_lt, if◌then◌else◌, List, length, Result, Ok, Err}
use Rattle.netlink_core.specs.Table.{Field, values_of, bytes_of, FitFields, HaveDefinedFlags}
use Rattle.netlink_core.specs.Rows.{Row, fields_of, numbers_of}
use Rattle.netlink_core.specs.Errors.{map_ok}
use Rattle.netlink_core.specs.declared.error.DecodeError.{DecodeError}
use Rattle.netlink_core.specs.declared.error.DecodeError.TheVariants.{BufferTooSmall}
use Rattle.netlink_core.specs.declared.error.RecordName.{RecordName}

-- The layout of a record in bytes. A tag selects the rows that are used, for example the IP version
-- of the addresses. A record with the same rows for all values has the tag `tt`.
pub record Layout (Param Tag Value : Type 0) : Type 1 where
  -- the name in errors
  pub name : RecordName
  -- the fewest bytes that the record is parsed from
  pub least : ℕ
  -- `tag_for param bytes`: `Ok` of the tag by which the bytes are parsed, or `Err` of the error
  -- that rejects them; it is used only if there are at least `least` bytes
  pub tag_for : Param → (bytes : List ℕ) → Result Tag DecodeError
  -- the tag by which the value is serialized
  pub tag_of : Value → Tag
  -- the rows for a tag
  pub rows : Tag → List (Row Value)
  -- The value with these numbers in the fields that are not ignored, for a tag: the inverse of
  -- `field_numbers`, below. `IsContainedIn` says without it which value the bytes contain, and by
  -- the law `parsed_iff_contained` both agree.
  pub value : Tag → List ℕ → Value
  -- `arrays_fit value`: each array of the value has the length of its type
  pub arrays_fit : Value → Type 0
  -- `is_consistent param value`: the fields of the value are consistent with the parameter and with
  -- each other; the normal form requires this, and that flags are defined
  pub is_consistent : Param → Value → Type 0

-- `plain name least rows value arrays_fit`: the layout of a record with the same rows for all
-- values. The arguments are the members of `Layout` with these names, `rows` and `value` without a
-- tag. The only tag is `tt`, so that no bytes are rejected for it, and every value is consistent
-- (`⊤`). A record without arrays has `λ value. ⊤` as `arrays_fit`.
abbrev pub plain : {Value : Type 0} → RecordName → (least : ℕ) → List (Row Value)
    → (List ℕ → Value) → (Value → Type 0) → Layout (Unit {0}) (Unit {0}) Value
plain name least rows value arrays_fit = record {
  name = name;
  least = least;
  tag_for = λ param bytes. Ok tt;
  tag_of = λ value. tt;
  rows = λ tag. rows;
  value = λ tag numbers. value numbers;
  arrays_fit = arrays_fit;
  is_consistent = λ param value. ⊤;
}

-- For a layout, the fields of a tag, and what is parsed, serialized and compared by them. The
-- layout is the first argument of each definition below. Among themselves they do not write it.
module _ {Param Tag Value : Type 0} (layout : Layout Param Tag Value) where
  -- `tag_fields layout tag`: the fields for a tag, in order
  abbrev pub tag_fields : Tag → List Field
  tag_fields tag = fields_of (layout.rows tag)

  -- `field_numbers layout value`: the numbers of the value, in the fields of its own tag (`tag_of`)
  -- that are not ignored
  abbrev pub field_numbers : Value → List ℕ
  field_numbers value = numbers_of (layout.rows (layout.tag_of value)) value

  -- `parse_fields layout param bytes`: parses the bytes by the fields of their tag, or returns the
  -- error of `tag_for`; it is used only if there are at least `least` bytes
  abbrev pub parse_fields : Param → List ℕ → Result Value DecodeError
  parse_fields param bytes = map_ok (λ tag. layout.value tag (values_of (tag_fields tag) bytes))
      (layout.tag_for param bytes)

  -- `parse_record layout param bytes`: parses the bytes, or returns their first error: fewer than
  -- `least` bytes, else the error of `tag_for`; bytes after the record are ignored
  abbrev pub parse_record : Param → List ℕ → Result Value DecodeError
  parse_record param bytes = if nat_lt (length bytes) layout.least
      then Err (BufferTooSmall layout.name (length bytes) layout.least)
      else parse_fields param bytes

  -- `record_bytes layout value`: the bytes that the value serializes to
  abbrev pub record_bytes : Value → List ℕ
  record_bytes value = bytes_of (tag_fields (layout.tag_of value)) (field_numbers value)

  -- `HasTagAndNumbers layout param bytes tag numbers`: there are at least `least` bytes, and they
  -- have this tag, and these numbers in the fields of the tag that are not ignored
  abbrev pub HasTagAndNumbers : Param → (bytes : List ℕ) → Tag → (numbers : List ℕ) → Type 0
  HasTagAndNumbers param bytes tag numbers =
      (layout.least ≤ length bytes) × (layout.tag_for param bytes ≡ Ok tag)
      × (values_of (tag_fields tag) bytes ≡ numbers)

  -- `AreEquivalent layout param b c`: both byte strings have at least `least` bytes, the same tag,
  -- and the same numbers in the fields of this tag that are not ignored
  abbrev pub AreEquivalent : Param → List ℕ → List ℕ → Type 0
  AreEquivalent param b c = (tag : Tag) × (numbers : List ℕ)
      × HasTagAndNumbers param b tag numbers × HasTagAndNumbers param c tag numbers

  -- `IsInRange layout value`: arrays of the value have the length of their types, and each of its
  -- numbers fits its field
  abbrev pub IsInRange : Value → Type 0
  IsInRange value = layout.arrays_fit value
      × FitFields (tag_fields (layout.tag_of value)) (field_numbers value)

  -- `IsNormal layout param value`: no number of flags has an undefined bit, and the fields are
  -- consistent with the parameter and with each other (`is_consistent`)
  abbrev pub IsNormal : Param → Value → Type 0
  IsNormal param value = HaveDefinedFlags (tag_fields (layout.tag_of value)) (field_numbers value)
      × layout.is_consistent param value

  -- `IsContainedIn layout bytes param value`: the bytes contain the value. There are at least
  -- `least` bytes, they have the value's tag and its numbers, and the value is in range and in
  -- normal form. This does not use the parser: neither `parse_record` nor the member `value` of the
  -- layout.
  abbrev pub IsContainedIn : List ℕ → Param → Value → Type 0
  IsContainedIn bytes param value =
      HasTagAndNumbers param bytes (layout.tag_of value) (field_numbers value)
      × IsInRange value × IsNormal param value
