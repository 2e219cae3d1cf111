-- Texts in bytes, and their terminating NUL.
use Rattle.std.proofs.Common.{◌≡◌, ◌≢◌, ◌⊎◌, inl, inr, ℕ, zero, suc, ◌-◌, List, [], ◌∷◌, ◌++◌, Ok}
use Rattle.std.proofs.Common.{Err, IsOk, length, slice_index, refl, ap, arith}
use Rattle.std.proofs.lemmas.List.{length-append, take_at}
use Rattle.std.proofs.lemmas.Bool.Decides.{nat_tests}
use Rattle.std.specs.Prelude.{IsUtf8}
use Rattle.std.proofs.lemmas.Str.{IsUtf8-from_is_utf8, is_utf8-from_IsUtf8}
use Rattle.netlink_core.specs.declared.error.DecodeError.TheVariants.{NotUtf8}
use Rattle.netlink_core.specs.Parse.{without_terminating_nul, parse_text}

-- the last byte of a text and one more byte is this byte
last_byte_of_text : (text : List ℕ) (last : ℕ)
    → slice_index (text ++ last ∷ []) (length text) ≡ last
last_byte_of_text [] last = refl
last_byte_of_text (byte ∷ text) last = last_byte_of_text text last

length_without_last : (text : List ℕ) (last : ℕ) → length (text ++ last ∷ []) - 1 ≡ length text
length_without_last text last = omega (arith, length-append text (last ∷ []))

-- a terminating NUL is removed
pub terminating_nul_is_removed : (text : List ℕ) → without_terminating_nul (text ++ 0 ∷ []) ≡ text
terminating_nul_is_removed text =
    rw (
      length_without_last text 0,
      last_byte_of_text text 0,
      take_at text (0 ∷ []) (length text) refl,
    ) refl

-- any other last byte is kept
pub other_last_byte_stays : (text : List ℕ) (last : ℕ) → last ≢ 0
    → without_terminating_nul (text ++ last ∷ []) ≡ text ++ last ∷ []
other_last_byte_stays text last other =
    rw (length_without_last text last, last_byte_of_text text last) (grind (arith, nat_tests))

-- bytes are empty, or end with a last byte
empty_or_last_byte : (s : List ℕ)
    → (s ≡ []) ⊎ ((front : List ℕ) × (last : ℕ) × (s ≡ front ++ last ∷ []))
empty_or_last_byte [] = inl refl
empty_or_last_byte (x ∷ []) = inr ([], x, refl)
empty_or_last_byte (x ∷ y ∷ rest) = elim (empty_or_last_byte (y ∷ rest)) [
  | inl none ↦ absurd (let wrong = none in cc)
  | inr (front, last, e) ↦ inr (x ∷ front, last, ap (λ (tail : List ℕ). x ∷ tail) e)
]

-- bytes end with a NUL, or all of them are kept
pub unchanged_or_terminated : (s : List ℕ)
    → (s ≡ without_terminating_nul s ++ 0 ∷ []) ⊎ (without_terminating_nul s ≡ s)
unchanged_or_terminated s = elim (empty_or_last_byte s) [
  | inl none ↦ inr (rw none refl)
  | inr (front, zero, e) ↦ inl (rw (e, terminating_nul_is_removed front) refl)
  | inr (front, suc n, e) ↦ inr (rw e (other_last_byte_stays front (suc n) (λ z. omega (arith, z))))
]

-- valid UTF-8 is a text
pub valid_utf8_is_text : (bytes text : List ℕ) → text ≡ without_terminating_nul bytes
    → IsUtf8 (without_terminating_nul bytes) → parse_text bytes ≡ Ok text
valid_utf8_is_text bytes text same valid =
    grind (arith, is_utf8-from_IsUtf8 (without_terminating_nul bytes))

-- bytes that are not valid UTF-8 are not a text
pub invalid_utf8_is_no_text : (bytes : List ℕ) → ¬ (IsUtf8 (without_terminating_nul bytes))
    → parse_text bytes ≡ Err NotUtf8
invalid_utf8_is_no_text bytes invalid =
    grind (arith, IsUtf8-from_is_utf8 (without_terminating_nul bytes))

-- a text is valid UTF-8
pub text_is_valid_utf8 : (bytes : List ℕ) → IsOk (parse_text bytes)
    → IsUtf8 (without_terminating_nul bytes)
text_is_valid_utf8 bytes is-text =
    IsUtf8-from_is_utf8 (without_terminating_nul bytes) (grind arith)

-- what `parse_str` returns
pub ruleset utf8_text_rules = (valid_utf8_is_text, invalid_utf8_is_no_text)
