-- What has to be proved of a layout, so that its laws follow.
use Rattle.std.specs.Prelude.{◌≡◌, ◌≤◌, ℕ, ◌+◌, Bool, true, ◌&&◌, ◌==◌, nat_lt, List, [], ◌∷◌}
use Rattle.std.specs.Prelude.{length, Ok, Err, IsTrue}
use Rattle.std.specs.List.{list_all}
use Rattle.netlink_core.specs.Bytes.{IsBytes}
use Rattle.netlink_core.specs.Table.{Field, byte, number, network, flags, unread, values_of}
use Rattle.netlink_core.specs.Layout.{Layout, tag_fields, field_numbers, record_bytes, IsInRange}
use Rattle.netlink_core.specs.Layout.{IsNormal}
use Rattle.netlink_core.specs.declared.error.DecodeError.TheVariants.{Memory}

-- the offset of a field
abbrev pub offset_of : Field → ℕ
offset_of (byte offset) = offset
offset_of (number offset width) = offset
offset_of (network offset width) = offset
offset_of (flags offset width mask) = offset
offset_of (unread offset written) = offset

-- the number of bytes of a field
abbrev pub width_of : Field → ℕ
width_of (byte offset) = 1
width_of (number offset width) = width
width_of (network offset width) = width
width_of (flags offset width mask) = width
width_of (unread offset written) = length written

-- what the serializer writes to an ignored field is bytes
abbrev pub ignored_content_is_bytes : Field → Bool
ignored_content_is_bytes (unread offset written) = list_all (λ number. nat_lt number 256) written
ignored_content_is_bytes _ = true

-- `fields_are_consecutive start fields end`: the fields are consecutive from the offset `start` to
-- the offset `end`, and what the serializer writes to ignored fields is bytes
abbrev pub fields_are_consecutive : (start : ℕ) → List Field → (end : ℕ) → Bool
fields_are_consecutive start [] end = start == end
fields_are_consecutive start (field ∷ fields) end =
    ((offset_of field == start) && ignored_content_is_bytes field)
    && fields_are_consecutive (start + width_of field) fields end

module _ {Param Tag Value : Type 0} (layout : Layout Param Tag Value) where
  -- The conditions on a layout from which its laws follow.
  pub record MeetsLayoutConditions : Type 0 where
    -- the number of bytes for a tag
    pub size : Tag → ℕ
    -- the fields for the tag of bytes are consecutive, and have `size` bytes together
    pub tables : (param : Param) (tag : Tag) (bytes : List ℕ)
        → layout.tag_for param bytes ≡ Ok tag
        → IsTrue (fields_are_consecutive 0 (tag_fields layout tag) (size tag))
    -- accepted bytes have at least `size` bytes
    pub room : (param : Param) (tag : Tag) (bytes : List ℕ) → layout.least ≤ length bytes
        → layout.tag_for param bytes ≡ Ok tag → size tag ≤ length bytes
    -- the fields for the tag of a value are consecutive, and have `size` bytes together
    pub own_table : (value : Value)
        → IsTrue (fields_are_consecutive 0 (tag_fields layout (layout.tag_of value))
        (size (layout.tag_of value)))
    -- `size` for the tag of a value is at least `least`
    pub enough : (value : Value) → layout.least ≤ size (layout.tag_of value)
    -- a value serializes to `size` bytes
    pub long : (value : Value) → length (record_bytes layout value)
        ≡ size (layout.tag_of value)
    -- bytes are never rejected with `Memory`
    pub named : (param : Param) (bytes : List ℕ) → layout.tag_for param bytes ≡ Err Memory → ⊥
    -- a parsed value has the numbers of the bytes
    pub kept : (param : Param) (tag : Tag) (bytes : List ℕ) → IsBytes bytes
        → layout.tag_for param bytes ≡ Ok tag
        → field_numbers layout (layout.value tag (values_of (tag_fields layout tag) bytes))
        ≡ values_of (tag_fields layout tag) bytes
    -- a parsed value has the tag of the bytes
    pub tagged : (param : Param) (tag : Tag) (bytes : List ℕ) → layout.tag_for param bytes ≡ Ok tag
        → layout.tag_of (layout.value tag (values_of (tag_fields layout tag) bytes)) ≡ tag
    -- the arrays of a parsed value have the length of their types
    pub shaped : (param : Param) (tag : Tag) (bytes : List ℕ) → IsBytes bytes
        → layout.tag_for param bytes ≡ Ok tag
        → layout.arrays_fit (layout.value tag (values_of (tag_fields layout tag) bytes))
    -- the fields of a parsed value are consistent, as the normal form requires
    pub owned : (param : Param) (tag : Tag) (bytes : List ℕ) → IsBytes bytes
        → layout.tag_for param bytes ≡ Ok tag
        → layout.is_consistent param (layout.value tag (values_of (tag_fields layout tag) bytes))
    -- a value in range and in normal form is the value with its tag and its numbers
    pub back : (param : Param) (value : Value) → IsInRange layout value
        → IsNormal layout param value
        → layout.value (layout.tag_of value) (field_numbers layout value) ≡ value
    -- the bytes that a value in range and in normal form serializes to have its tag
    pub tag_written : (param : Param) (value : Value) → IsInRange layout value
        → IsNormal layout param value
        → layout.tag_for param (record_bytes layout value) ≡ Ok (layout.tag_of value)

  -- each value has `size` bytes, and is parsed from at least `size` bytes
  abbrev pub HasFixedSize : ℕ → Type 0
  HasFixedSize size = (layout.least ≡ size)
      × ((value : Value) → length (record_bytes layout value) ≡ size)
