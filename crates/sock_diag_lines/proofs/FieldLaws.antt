-- Hex fields and decimal numbers determine what they show.
use Rattle.std.proofs.Common.{◌≡◌, ◌==◌, inl, inr, ℕ, ◌<◌, ◌^◌, true, List, [], ◌∷◌, ◌++◌, length}
use Rattle.std.proofs.Common.{decimal, refl, sym, ap₂, subst, arith}
use Rattle.std.specs.Str.{all_ascii_digits}
use Rattle.std.proofs.lemmas.Bool.{eqb-true, false_from_ne_true}
use Rattle.std.proofs.lemmas.Fmt.{digits_decimal}
use Rattle.std.proofs.lemmas.Str.Parse.{numerals_by_value, tells_all_ascii_digits}
use Rattle.hex.proofs.HexLemmas.{decode_of-encode_lower, decode_of-ok}
use Rattle.netlink_core.specs.Bytes.{IsBytes}
use Rattle.sock_diag_lines.specs.HexField.{IsHexField, hex_field_of}
use Rattle.sock_diag_lines.proofs.FieldLists.{one_field}

-- the contents of a hex field are bytes
pub IsBytes-field : (field content : List ℕ) → IsHexField field content → IsBytes content
IsBytes-field field content (inl dash) = λ i. rw dash.1 (omega arith)
IsBytes-field field content (inr digits) = (decode_of-ok field content digits.1).3

-- the hex field of bytes has these bytes
hex_field_has_bytes : (x : List ℕ) → IsBytes x → IsHexField (hex_field_of x) x
hex_field_has_bytes [] h = inl (refl, refl)
hex_field_has_bytes (b ∷ x) h =
    let some = false_from_ne_true (length (b ∷ x) == 0) (λ e. omega (arith, eqb-true _ 0 e)) in
    rw some (inr (omega arith, decode_of-encode_lower (b ∷ x) h))

-- equal hex fields have equal bytes
pub hex_field_of-same : (x y : List ℕ) → IsBytes x → IsBytes y → hex_field_of x ≡ hex_field_of y
    → x ≡ y
hex_field_of-same x y hx hy e = one_field (hex_field_of x) x y (hex_field_has_bytes x hx)
    (subst (λ (f : List ℕ). IsHexField f y) (sym e) (hex_field_has_bytes y hy))

-- digits before a space, and the rest after it, are determined by the text
pub word_and_rest : (x y rest other : List ℕ) → all_ascii_digits x ≡ true
    → all_ascii_digits y ≡ true → x ++ 32 ∷ rest ≡ y ++ 32 ∷ other → (x ≡ y) × (rest ≡ other)
word_and_rest [] [] rest other hx hy e = (refl, (cc))
word_and_rest [] (d ∷ y) rest other hx hy e = let digit = (tells_all_ascii_digits.parts d y hy).0 in
    let space : 32 ≡ d = cc in absurd (omega (arith, digit, space))
word_and_rest (c ∷ x) [] rest other hx hy e = let digit = (tells_all_ascii_digits.parts c x hx).0 in
    let space : c ≡ 32 = cc in absurd (omega (arith, digit, space))
word_and_rest (c ∷ x) (d ∷ y) rest other hx hy e =
    let same : c ≡ d = cc in
    let later : x ++ 32 ∷ rest ≡ y ++ 32 ∷ other = cc in
    let both = word_and_rest x y rest other (tells_all_ascii_digits.parts c x hx).1
    (tells_all_ascii_digits.parts d y hy).1 later in
    (ap₂ (λ (z : ℕ) (zs : List ℕ). z ∷ zs) same both.0, both.1)

-- a decimal number consists of digits
pub decimal_digits : (n : ℕ) → n < 2 ^ 64 → all_ascii_digits (decimal n) ≡ true
decimal_digits n h = digits_decimal (numerals_by_value _ tells_all_ascii_digits) n h
