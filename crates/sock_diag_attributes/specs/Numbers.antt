-- Little-endian numbers that make up the complete value of an attribute. The arguments of
-- `whole_value_codec` are, in this order: how a value is parsed, how it is serialized, which values
-- are in range, and which are in normal form. With `whole_value_codec`, only equal bytes are
-- equivalent.
use Rattle.std.specs.List.{AllByRecursion}
use Rattle.netlink_core.specs.ValueCodec.{ValueCodec}
use Rattle.netlink_core.specs.AttributeSpecs.{whole_value_codec}
use Rattle.std.specs.Prelude.{⊤, ◌<◌, ◌^◌, ℕ, ◌%◌, ◌==◌, if◌then◌else◌, List, [], ◌∷◌, ◌++◌, length}
use Rattle.std.specs.Prelude.{drop, flat_map, Some, Result, Ok, Err}
use Rattle.byteorder.specs.Endian.{little_number, little_bytes}
use Rattle.netlink_core.specs.declared.error.DecodeError.{DecodeError}
use Rattle.netlink_core.specs.declared.error.DecodeError.TheVariants as errors

-- `numbers_in bytes`: the consecutive little-endian numbers in the bytes, of four bytes each. One
-- to three bytes at the end, which are not a complete number, are left out.
abbrev pub numbers_in : List ℕ → List ℕ
numbers_in (a ∷ b ∷ c ∷ d ∷ rest) = little_number 4 (a ∷ b ∷ c ∷ d ∷ []) ∷ numbers_in rest
numbers_in bytes = []

-- `parse_number_pair kind bytes`: `Ok` of the two little-endian numbers of four bytes each in
-- exactly eight bytes, the value of an attribute of this kind. Any other length is `WrongLength`,
-- which contains the kind, the length, and 8.
abbrev pub parse_number_pair : (kind : ℕ) → List ℕ → Result (ℕ × ℕ) DecodeError
parse_number_pair kind bytes =
    if length bytes == 8 then Ok (little_number 4 bytes, little_number 4 (drop 4 bytes))
    else Err (errors.WrongLength (Some kind) (length bytes) 8)

-- `number_pair_bytes pair`: the eight bytes that the two numbers serialize to
abbrev pub number_pair_bytes : ℕ × ℕ → List ℕ
number_pair_bytes pair = little_bytes 4 pair.0 ++ little_bytes 4 pair.1

-- `IsNumberPairInRange pair`: both numbers fit four bytes
abbrev pub IsNumberPairInRange : ℕ × ℕ → Type 0
IsNumberPairInRange pair = (pair.0 < 2 ^ 32) × (pair.1 < 2 ^ 32)

-- `number_pair_value kind`: the codec of two numbers, as the value of an attribute of this kind,
-- such as `struct unix_diag_rqlen` (linux/unix_diag.h): `udiag_rqueue`, `udiag_wqueue`. Each pair
-- is in normal form (`⊤`).
abbrev pub number_pair_value : (kind : ℕ) → ValueCodec (Unit {0})
number_pair_value kind = whole_value_codec (parse_number_pair kind) number_pair_bytes
    IsNumberPairInRange (λ pair. ⊤)

-- `parse_numbers bytes`: `Ok` of all of the little-endian numbers in the bytes, of four bytes each.
-- A length that is not a multiple of four is `NotMultipleOfFour`, which contains the length.
abbrev pub parse_numbers : List ℕ → Result (List ℕ) DecodeError
parse_numbers bytes =
    if length bytes % 4 == 0 then Ok (numbers_in bytes)
    else Err (errors.NotMultipleOfFour (length bytes))

-- The codec of a list of numbers, of any length, as the value of an attribute. A list is in range
-- if each number is below 2^32, and always in normal form (`⊤`).
abbrev pub numbers_value : ValueCodec (Unit {0})
numbers_value = whole_value_codec parse_numbers (flat_map (little_bytes 4))
    (AllByRecursion (λ n. n < 2 ^ 32)) (λ numbers. ⊤)
