-- A name can be read back from what is shown.
use Rattle.std.proofs.Common.{◌≡◌, ℕ, zero, suc, ◌+◌, ◌*◌, ◌/◌, ◌%◌, ◌<◌, ◌≤◌, ◌==◌, ◌&&◌, Bool}
use Rattle.std.proofs.Common.{true, List, [], ◌∷◌, ◌++◌, slice_index, inl, inr, refl, ap, ◌∙◌}
use Rattle.std.proofs.Common.{arith, append_assoc, flat_map, chars}
use Rattle.std.specs.Char.{IsScalar}
use Rattle.std.specs.List.{AllByRecursion}
use Rattle.std.specs.Str.{is_utf8}
use Rattle.std.proofs.Math.Utf8.{encode, encodes, scalars}
use Rattle.std.proofs.lemmas.Bool.{and_parts, cases_Bool, cases_eq, leb-true, ne_eqb}
use Rattle.std.proofs.lemmas.Str.{IsUtf8-from_is_utf8, encodes-chars, scalars-chars}
use Rattle.hex.specs.Hex.{encode_with, lower_digits}
use Rattle.sslist_texts.specs.Escapes.{byte_digits, unescaped_bytes, shown_character}
use Rattle.sslist_texts.specs.Escapes.{hex_digit_value, escaped_byte, is_shown_character}
use Rattle.sslist_texts.specs.Escapes.{shown_name}

-- A byte that is neither a space nor a backslash represents itself.
pub unescaped_printable_byte : (c : ℕ) (t : List ℕ) → (c ≡ 32 → ⊥) → (c ≡ 92 → ⊥)
    → unescaped_bytes 0 (c ∷ t) ≡ c ∷ unescaped_bytes 0 t
unfolding unescaped_bytes
unescaped_printable_byte c t space slash = rw (ne_eqb c 32 space, ne_eqb c 92 slash) refl

-- each hexadecimal digit below n has its value
abbrev digits_below : ℕ → Bool
digits_below zero = true
digits_below (suc n) = (hex_digit_value (slice_index lower_digits n) == n) && digits_below n

digit_below : (n : ℕ) → digits_below n ≡ true → (d : ℕ) → d < n
    → hex_digit_value (slice_index lower_digits d) ≡ d
digit_below zero h d low = absurd (omega arith)
digit_below (suc n) h d low =
    grind (arith, cases_eq d n, digit_below n)

-- The two hexadecimal digits of a byte have its value.
digits_are : (c : ℕ) → c < 256
    → 16 * hex_digit_value (slice_index lower_digits (c / 16))
    + hex_digit_value (slice_index lower_digits (c % 16)) ≡ c
digits_are c low =
    grind (arith, digit_below 16)

pub unescaped_byte_digits : (c : ℕ) (t : List ℕ) → c < 256
    → unescaped_bytes 0 (byte_digits c ++ t) ≡ c ∷ unescaped_bytes 0 t
unfolding unescaped_bytes encode_with
unescaped_byte_digits c t low = ap (λ (k : ℕ). k ∷ unescaped_bytes 0 t) (digits_are c low)

unescaped_escaped_byte : (c : ℕ) (t : List ℕ) → c < 256
    → unescaped_bytes 0 (escaped_byte c ++ t) ≡ c ∷ unescaped_bytes 0 t
unescaped_escaped_byte c t low =
    grind (arith, unescaped_printable_byte c t, unescaped_byte_digits c t low)

unescaped_escaped_bytes : (bs t : List ℕ) → AllByRecursion (λ (b : ℕ). b < 256) bs
    → unescaped_bytes 0 (flat_map escaped_byte bs ++ t) ≡ bs ++ unescaped_bytes 0 t
unescaped_escaped_bytes [] t low = refl
unescaped_escaped_bytes (b ∷ bs) t low =
    grind (
      arith,
      append_assoc (escaped_byte b) (flat_map escaped_byte bs) t,
      unescaped_escaped_byte b (flat_map escaped_byte bs ++ t) low.0,
      unescaped_escaped_bytes bs t low.1,
    )

unescaped_high_bytes : (bs t : List ℕ) → AllByRecursion (λ (b : ℕ). 128 ≤ b) bs
    → unescaped_bytes 0 (bs ++ t) ≡ bs ++ unescaped_bytes 0 t
unescaped_high_bytes [] t high = refl
unescaped_high_bytes (b ∷ bs) t high =
    grind (arith, unescaped_printable_byte b (bs ++ t), unescaped_high_bytes bs t high.1)

-- Each UTF-8 byte of a character that is not ASCII is at least 128.
encode_high : (c : ℕ) → 128 ≤ c → AllByRecursion (λ (b : ℕ). 128 ≤ b) (encode c)
unfolding encode
encode_high c big =
    grind arith

-- Each element of the UTF-8 of a character is a byte.
pub encode_low : (c : ℕ) → IsScalar c → AllByRecursion (λ (b : ℕ). b < 256) (encode c)
unfolding encode
encode_low c ok =
    grind arith

-- A character that is shown unchanged is not ASCII.
shown_is_high : (c : ℕ) → is_shown_character c ≡ true → 128 ≤ c
unfolding is_shown_character
shown_is_high c held = leb-true 128 c (and_parts _ _ held).0

unescaped_shown_character : (c : ℕ) (t : List ℕ) → IsScalar c
    → unescaped_bytes 0 (shown_character c ++ t) ≡ encode c ++ unescaped_bytes 0 t
unescaped_shown_character c t ok =
    grind (
      arith,
      cases_Bool (is_shown_character c),
      unescaped_high_bytes (encode c) t,
      encode_high c,
      shown_is_high c,
      unescaped_escaped_bytes (encode c) t (encode_low c ok),
    )

unescaped_shown_characters : (cs t : List ℕ) → scalars cs ≡ true
    → unescaped_bytes 0 (flat_map shown_character cs ++ t) ≡ encodes cs ++ unescaped_bytes 0 t
unescaped_shown_characters [] t ok = refl
unescaped_shown_characters (c ∷ cs) t ok =
    grind (
      arith,
      append_assoc (shown_character c) (flat_map shown_character cs) t,
      unescaped_shown_character c (flat_map shown_character cs ++ t),
      unescaped_shown_characters cs t,
      append_assoc (encode c) (encodes cs) (unescaped_bytes 0 t),
    )

pub all_bytes : (bs : List ℕ) → ((i : ℕ) → slice_index bs i < 256)
    → AllByRecursion (λ (b : ℕ). b < 256) bs
all_bytes [] in_range = tt
all_bytes (b ∷ bs) in_range = (in_range 0, all_bytes bs (λ i. in_range (suc i)))

-- What is shown of a name represents the name, also if a text follows.
pub unescaped_shown_name : (utf8 : Bool) (bs t : List ℕ) → ((i : ℕ) → slice_index bs i < 256)
    → unescaped_bytes 0 (shown_name utf8 bs ++ t) ≡ bs ++ unescaped_bytes 0 t
unescaped_shown_name utf8 bs t in_range = elim (cases_Bool (utf8 && is_utf8 bs)) [
  | inl held ↦
      let is = IsUtf8-from_is_utf8 bs (and_parts _ _ held).1 in
      rw held (unescaped_shown_characters (chars bs) t (scalars-chars bs is)
      ∙ ap (λ (l : List ℕ). l ++ unescaped_bytes 0 t) (encodes-chars bs is))
  | inr other ↦ rw other (unescaped_escaped_bytes bs t (all_bytes bs in_range))
]
