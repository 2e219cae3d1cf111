-- The usual attribute types.
use Rattle.std.specs.Prelude.{◌≡◌, ℕ, ◌<◌, ◌^◌, List, Some, Result, ⊤}
use Rattle.byteorder.specs.Endian.{little_bytes}
use Rattle.netlink_core.specs.declared.error.DecodeError.{DecodeError}
use Rattle.netlink_core.specs.Parse.{number_of_width}
use Rattle.netlink_core.specs.ValueCodec.{ValueCodec}
use Rattle.netlink_core.specs.AttributeSet.{AttributeSpec}

-- `attribute_spec kind codec`: the attribute type of this kind, with this codec of its values. All
-- its values need no memory (`⊤`). The codec has no parameter (`Unit {0}`).
abbrev pub attribute_spec : (kind : ℕ) → ValueCodec (Unit {0}) → AttributeSpec
attribute_spec kind codec = record { number = kind; value = codec; needs_no_memory = ⊤ }

-- `allocating_attribute_spec kind codec`: the attribute type of this kind, with this codec of its
-- values. All its values count as needing memory (`⊥`).
abbrev pub allocating_attribute_spec : (kind : ℕ) → ValueCodec (Unit {0}) → AttributeSpec
allocating_attribute_spec kind codec = record {
  number = kind;
  value = codec;
  needs_no_memory = ⊥;
}

-- `whole_value_codec parses bytes is_in_range is_normal`: the codec of values that take all bytes,
-- and of which all bits are significant, so that only equal byte strings are equivalent. The
-- arguments are the parser, the serializer, which values are in range, and which are in normal
-- form. There is no parameter: `p` is `tt`.
abbrev pub whole_value_codec : {A : Type 0} → (List ℕ → Result A DecodeError) → (A → List ℕ)
    → (A → Type 0) → (A → Type 0) → ValueCodec (Unit {0})
whole_value_codec {A} parses bytes is_in_range is_normal = record {
  Value = A;
  parses = λ p b. parses b;
  bytes = bytes;
  equivalent = λ p b c. b ≡ c;
  is_in_range = is_in_range;
  is_normal = λ p v. is_normal v;
}

-- `number_attribute_spec kind width`: the attribute type of this kind for little-endian numbers of
-- exactly `width` bytes. The error of any other length contains the kind. A number is in range if
-- it fits these bytes, and always in normal form (`⊤`).
abbrev pub number_attribute_spec : (kind width : ℕ) → AttributeSpec
number_attribute_spec kind width =
    attribute_spec kind (whole_value_codec (number_of_width (Some kind) width) (little_bytes width)
    (λ number. number < 256 ^ width) (λ number. ⊤))
