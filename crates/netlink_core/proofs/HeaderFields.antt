-- The header of an attribute that is read as one number of 32 bits.
use Rattle.std.proofs.Common.{◌≡◌, ◌∙◌, ℕ, ◌+◌, ◌-◌, ◌*◌, ◌/◌, ◌%◌, ◌≤◌, List, ◌∷◌, length, take}
use Rattle.std.proofs.Common.{drop, bit_and, sym, ap, arith}
use Rattle.std.proofs.lemmas.Nat.{and_mask}
use Rattle.std.proofs.lemmas.List.{take_all, take_rest}
use Rattle.byteorder.specs.Endian.{little_number}
use Rattle.netlink_core.specs.Bytes.{IsBytes}
use Rattle.netlink_core.specs.Attribute.{HasAttributePrefix}
use Rattle.netlink_core.specs.laws.Prefix.{has_attribute_prefix}

-- the lower half is the length field, and the upper half the type field
pub header_fields : (bytes : List ℕ) (header : ℕ) → IsBytes bytes → 4 ≤ length bytes
    → header ≡ little_number 4 bytes
    → (bit_and header 65535 ≡ little_number 2 bytes)
    × (header / 65536 ≡ little_number 2 (take (length bytes - 2) (drop 2 bytes)))
header_fields (a ∷ b ∷ c ∷ d ∷ tail) header fits long header-is =
    let low : header % 65536 ≡ a + 256 * (b + 256 * 0) =
    omega (arith, fits 0, fits 1, fits 2, fits 3) in
    let high : header / 65536 ≡ c + 256 * (d + 256 * 0) =
    omega (arith, fits 0, fits 1, fits 2, fits 3) in (
      and_mask header 16 ∙ low,
      high ∙ sym (ap (little_number 2) (take_all _ (c ∷ d ∷ tail) (omega arith))),
    )
header_fields bytes header fits long header-is = absurd (omega arith)

-- A length field `n` is at least 4 and at most `count`, if 4 less, as a number of 64 bits, is at
-- most 4 less than `count`: below 4 it is a number above all counts.
length_within : (n count : ℕ) → n ≤ 65535 → 4 ≤ count → count ≤ 9223372036854775807
    → (n + 18446744073709551612) % 18446744073709551616 ≤ count - 4
    → (4 ≤ n) × (n ≤ count) × ((n + 18446744073709551612) % 18446744073709551616 ≡ n - 4)
length_within n count small long bounded within = omega arith

-- the bytes begin with the attribute whose length field passes the test of `length_within`
pub attribute_of_fields : (bytes : List ℕ) (header value_len : ℕ) → IsBytes bytes
    → 4 ≤ length bytes → length bytes ≤ 9223372036854775807 → header ≡ little_number 4 bytes
    → value_len ≡ (bit_and header 65535 + 18446744073709551612) % 18446744073709551616
    → value_len ≤ length bytes - 4
    → HasAttributePrefix bytes (record {
      type_word = header / 65536;
      value = take value_len (take (length bytes - 4) (drop 4 bytes));
    })
attribute_of_fields bytes header value_len fits long bounded header-is len-is within =
    let fields = header_fields bytes header fits long header-is in
    let small : bit_and header 65535 ≤ 65535 = omega (arith, and_mask header 16) in
    let len = length_within (bit_and header 65535) (length bytes) small long bounded
    (omega arith) in
    rw (len-is ∙ len.2, take_rest bytes 4) (has_attribute_prefix bytes _ _ fits fields.0 fields.1
    len.0 len.1)
