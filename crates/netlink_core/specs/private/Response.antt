-- A header with attributes after it, in bytes.
use Rattle.std.specs.Prelude.{◌≤◌, ℕ, List, ◌++◌, length}
use Rattle.std.specs.List.{AllByRecursion, flat_map}
use Rattle.netlink_core.specs.Attribute.{Attribute, FitsLengthField, attribute_bytes}

-- `header_and_attributes header attributes`: the bytes of the header, and then the bytes of each
-- attribute with its padding, in order
abbrev pub header_and_attributes : List ℕ → List Attribute → List ℕ
header_and_attributes header attributes = header ++ flat_map attribute_bytes attributes

-- `HasWritableLengths header attributes`: each attribute's value has at most 65,531 bytes, and the
-- header and the attributes together have at most 4,294,967,295
abbrev pub HasWritableLengths : List ℕ → List Attribute → Type 0
HasWritableLengths header attributes = AllByRecursion FitsLengthField attributes
    × (length (header_and_attributes header attributes) ≤ 4294967295)
