-- Attributes that are nested in the value of another attribute or follow a header.
use Rattle.std.specs.Prelude.{ℕ, List, [], Option, None, Some, Result}
use Rattle.netlink_core.specs.declared.error.DecodeError.{DecodeError}
use Rattle.netlink_core.specs.Attribute.{Attribute}
use Rattle.netlink_core.specs.AttributeSet.{decode_attribute}
use Rattle.netlink_core.specs.Parse.{number_of_width, parse_text}
use Rattle.attribute_lists.specs.AttributesIn.{decoded_in}
use Rattle.sock_diag_families.specs.AttributeGetters.{first_value_of_kind, parse_if_present}

-- `attributes_in bytes`: the attributes that the bytes consist of, in order. Only meaningful for
-- bytes without a framing error.
abbrev pub attributes_in : List ℕ → List Attribute
attributes_in = decoded_in (decode_attribute [])

-- `first_value_in kind bytes`: the value of the first attribute of type `kind` in the bytes, or
-- None if there is none. The two flag bits of the type field are ignored.
abbrev pub first_value_in : ℕ → List ℕ → Option (List ℕ)
first_value_in kind bytes = first_value_of_kind kind (attributes_in bytes)

-- `nested_number_in (kind, width) bytes`: the little-endian number in the first attribute of type
-- `kind` in the bytes, whose value has `width` bytes. `Ok None` if there is no such attribute.
-- WrongLength with the attribute type if its value has another length.
abbrev pub nested_number_in : ℕ × ℕ → List ℕ → Result (Option ℕ) DecodeError
nested_number_in (kind, width) bytes =
    parse_if_present (number_of_width (Some kind) width) (first_value_in kind bytes)

-- `nested_u32_in kind bytes`: the little-endian u32 in the first attribute of type `kind` in the
-- bytes. `Ok None` if there is no such attribute. WrongLength, without the attribute type, if its
-- value does not have 4 bytes.
abbrev pub nested_u32_in : ℕ → List ℕ → Result (Option ℕ) DecodeError
nested_u32_in kind bytes = parse_if_present (number_of_width None 4) (first_value_in kind bytes)

-- `nested_text_in kind bytes`: the bytes of the text in the first attribute of type `kind` in the
-- bytes, without one terminating NUL if it has one. `Ok None` if there is no such attribute.
-- NotUtf8 if the text is not valid UTF-8.
abbrev pub nested_text_in : ℕ → List ℕ → Result (Option (List ℕ)) DecodeError
nested_text_in kind bytes = parse_if_present parse_text (first_value_in kind bytes)
