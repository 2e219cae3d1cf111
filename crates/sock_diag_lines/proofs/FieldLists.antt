-- The bytes of one and of several hex fields.
use Rattle.std.proofs.Common.{◌≡◌, ◌≢◌, ◌==◌, ◌⊎◌, inl, inr, ℕ, ◌<◌, true, List, [], ◌∷◌, length}
use Rattle.std.proofs.Common.{codes, Result, Ok, Err, refl, sym, ap, ap₂, ◌∙◌, arith}
use Rattle.std.specs.List.{AllByRecursion, AllZip}
use Rattle.std.proofs.lemmas.Bool.{eqb-true}
use Rattle.hex.specs.Hex.{decode_of}
use Rattle.hex.proofs.HexLemmas.{decode_of-ok, decode_of-same}
use Rattle.hex.specs.declared.error.FromHexError.{FromHexError}
use Rattle.sock_diag_lines.specs.HexField.{IsHexField}
use Rattle.sock_diag_lines.proofs.Deciding.{each_or_not, same_or_not}

-- the field is a hex field
abbrev pub HasBytes : List ℕ → Type 0
HasBytes field = (bytes : List ℕ) × IsHexField field bytes

-- `-` has no digits
no_digits : (field bytes : List ℕ) → field ≡ codes "-" → decode_of field ≡ Ok bytes → ⊥
no_digits field bytes dash read =
    omega (arith, (decode_of-ok field bytes read).0, ap length dash)

-- an empty field is not a hex field
pub empty_is_no_hex_field : (field bytes : List ℕ) → (length field == 0) ≡ true
    → IsHexField field bytes → ⊥
empty_is_no_hex_field field bytes empty (inl dash) =
    omega (arith, ap length dash.0, eqb-true (length field) 0 empty)
empty_is_no_hex_field field bytes empty (inr digits) =
    omega (arith, (decode_of-ok field bytes digits.1).2, eqb-true (length field) 0 empty, digits.0)

pub one_field : (field b c : List ℕ) → IsHexField field b → IsHexField field c → b ≡ c
one_field field b c (inl dash) (inl also) = dash.1 ∙ sym also.1
one_field field b c (inl dash) (inr digits) = absurd (no_digits field c dash.0 digits.1)
one_field field b c (inr digits) (inl dash) = absurd (no_digits field b dash.0 digits.1)
one_field field b c (inr digits) (inr also) = decode_of-same field b c digits.1 also.1

pub field_or_not : (field : List ℕ) → HasBytes field ⊎ ¬ HasBytes field
field_or_not field = elim (same_or_not field (codes "-")) [
  | inl dash ↦ inl ([], inl (dash, refl))
  | inr other ↦ by_digits (decode_of field) refl other
]
  where
    digits : (bytes : List ℕ) → field ≢ codes "-" → IsHexField field bytes
        → (0 < length bytes) × (decode_of field ≡ Ok bytes)
    digits bytes other (inl dash) = absurd (other dash.0)
    digits bytes other (inr d) = d

    by_digits : (r : Result (List ℕ) FromHexError) → decode_of field ≡ r → field ≢ codes "-"
        → HasBytes field ⊎ ¬ HasBytes field
    by_digits (Ok (b ∷ bytes)) e other = inl (b ∷ bytes, inr (omega arith, e))
    by_digits (Ok []) e other = inr (λ has.
        let d = digits has.0 other has.1 in
        omega (arith, d.0, ap length (decode_of-same field [] has.0 e d.1)))
    by_digits (Err x) e other = inr (λ has. let d = digits has.0 other has.1 in cc (e, d.1))

-- several fields are hex fields if each one is, and only then; whether they are is decidable
pub each_has_bytes : (fields row : List (List ℕ)) → AllZip IsHexField fields row
    → AllByRecursion HasBytes fields
each_has_bytes [] row each = tt
each_has_bytes (f ∷ fields) [] each = absurd each
each_has_bytes (f ∷ fields) (b ∷ row) each = ((b, each.0), each_has_bytes fields row each.1)

zipped : (fields : List (List ℕ)) → AllByRecursion HasBytes fields
    → (row : List (List ℕ)) × AllZip IsHexField fields row
zipped [] each = ([], tt)
zipped (f ∷ fields) ((b, is), each) = let row = zipped fields each in (b ∷ row.0, (is, row.1))

pub row_or_not : (fields : List (List ℕ)) → ((row : List (List ℕ)) × AllZip IsHexField fields row)
    ⊎ ¬ ((row : List (List ℕ)) × AllZip IsHexField fields row)
row_or_not fields = elim (each_or_not HasBytes field_or_not fields) [
  | inl each ↦ inl (zipped fields each)
  | inr none ↦ inr (λ all. none (each_has_bytes fields all.0 all.1))
]

-- several hex fields have one list of byte strings
pub one_list_of_bytes : (fields row other : List (List ℕ)) → AllZip IsHexField fields row
    → AllZip IsHexField fields other → row ≡ other
one_list_of_bytes [] [] [] h k = refl
one_list_of_bytes [] (b ∷ row) other h k = absurd h
one_list_of_bytes [] [] (c ∷ other) h k = absurd k
one_list_of_bytes (f ∷ fields) [] other h k = absurd h
one_list_of_bytes (f ∷ fields) (b ∷ row) [] h k = absurd k
one_list_of_bytes (f ∷ fields) (b ∷ row) (c ∷ other) h k =
    ap₂ ◌∷◌ (one_field f b c h.0 k.0) (one_list_of_bytes fields row other h.1 k.1)
