-- Values in bytes that consist of attributes. Of each type the first attribute counts. Attributes
-- after bytes that are not an attribute are not considered.
use Rattle.std.specs.Prelude.{ℕ, ◌==◌, if◌then◌else◌, List, length, Option, None, Some}
use Rattle.std.specs.Prelude.{option_and_then, option_map}
use Rattle.byteorder.specs.Endian.{little_number}
use Rattle.sock_diag_any.specs.Pieces.{first_of_kind, pieces_in}

-- `nested_value kind bytes`: the value of the first attribute of this type in the bytes, or None if
-- there is none. Attributes after bytes that are not an attribute are not considered.
abbrev pub nested_value : ℕ → List ℕ → Option (List ℕ)
nested_value kind bytes =
    option_map (λ a. a.value) (first_of_kind kind (pieces_in bytes))

-- `nested_number (kind, width) bytes`: the little-endian number in the first attribute of this type
-- in the bytes; None if there is none, or if its value does not have `width` bytes
abbrev pub nested_number : ℕ × ℕ → List ℕ → Option ℕ
nested_number (kind, width) bytes = option_and_then
    (λ value. if length value == width then Some (little_number width value) else None)
    (nested_value kind bytes)
