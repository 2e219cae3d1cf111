-- The fields of a C struct. The value of an attribute may have fewer or more bytes than the struct,
-- by the version of the kernel. The span of a field is its offset (`.0`) and its width (`.1`), both
-- in bytes.
use Rattle.std.specs.Prelude.{ℕ, ◌+◌, ◌-◌, ◌/◌, ◌%◌, ◌^◌, List, drop, Option, None, Some}
use Rattle.byteorder.specs.Endian.{little_number}

-- `end_of_span span`: the offset of the byte after the field, its offset plus its width
abbrev pub end_of_span : ℕ × ℕ → ℕ
end_of_span span = span.0 + span.1

-- `number_in_span span bytes`: the value of the field, a little-endian number, in bytes that
-- contain all of it: at least `end_of_span span` bytes.
abbrev pub number_in_span : ℕ × ℕ → List ℕ → ℕ
number_in_span span bytes = little_number span.1 (drop span.0 bytes)

-- `bits_of bits number`: the value of a bit field in a number, by its lowest bit (`.0`), counted
-- from the least significant one, and its number of bits (`.1`). None is the whole number.
abbrev pub bits_of : Option (ℕ × ℕ) → ℕ → ℕ
bits_of None number = number
bits_of (Some (lowest, count)) number = number / 2 ^ lowest % 2 ^ count

-- `shift_and_mask bits`: the shift and the mask of a bit field with this lowest bit and this number
-- of bits
abbrev pub shift_and_mask : ℕ × ℕ → ℕ × ℕ
shift_and_mask bits = (bits.0, 2 ^ bits.1 - 1)
