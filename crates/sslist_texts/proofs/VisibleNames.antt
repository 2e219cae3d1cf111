-- What is shown of a name is the UTF-8 of visible characters.
use Rattle.std.proofs.Common.{◌≡◌, ℕ, zero, suc, ◌/◌, ◌%◌, ◌<◌, ◌≤◌, ◌&&◌, ◌||◌, Bool, true, List}
use Rattle.std.proofs.Common.{[], ◌∷◌, ◌++◌, slice_index, inl, inr, refl, sym, ap, ◌∙◌, arith}
use Rattle.std.proofs.Common.{append-nil, flat_map, chars, encode_utf8, false, nat_le}
use Rattle.std.specs.Char.{IsScalar}
use Rattle.std.specs.List.{AllByRecursion}
use Rattle.std.specs.Str.{is_utf8}
use Rattle.std.proofs.Math.Utf8.{encode, scalars}
use Rattle.std.proofs.lemmas.Bool.{and_parts, cases_Bool, cases_lt, le-leb, leb-true}
use Rattle.std.proofs.lemmas.Grind.{flat_map-append}
use Rattle.std.proofs.lemmas.Str.{IsUtf8-from_is_utf8, encode_ascii, scalars-chars}
use Rattle.hex.specs.Hex.{encode_with, lower_digits}
use Rattle.sslist_texts.specs.Escapes.{byte_digits, escaped_byte, is_printable_byte}
use Rattle.sslist_texts.specs.Escapes.{is_shown_character, is_visible_character}
use Rattle.sslist_texts.specs.Escapes.{shown_character, shown_name, IsVisibleText}
use Rattle.sslist_texts.proofs.ShownNames.{all_bytes, encode_low}

all_append : (P : ℕ → Type 0) (xs ys : List ℕ) → AllByRecursion P xs → AllByRecursion P ys
    → AllByRecursion P (xs ++ ys)
all_append P [] ys first second = second
all_append P (x ∷ xs) ys first second = (first.0, all_append P xs ys first.1 second)

-- Two visible texts are together one.
visible_append : (a b : List ℕ) → IsVisibleText a → IsVisibleText b → IsVisibleText (a ++ b)
visible_append a b first second = (
  first.0 ++ second.0,
  ap (λ (t : List ℕ). t ++ b) first.1
      ∙ ap (λ (t : List ℕ). flat_map encode_utf8 first.0 ++ t) second.1
      ∙ sym (flat_map-append encode_utf8 first.0 second.0),
  all_append _ first.0 second.0 first.2 second.2,
)

-- Printable ASCII is a visible text.
visible_ascii : (cs : List ℕ) → AllByRecursion (λ (c : ℕ). (33 ≤ c) × (c ≤ 126)) cs
    → IsVisibleText cs
visible_ascii [] all = ([], refl, tt)
visible_ascii (c ∷ cs) all =
    let rest = visible_ascii cs all.1 in
    let is : is_visible_character c ≡ true = rw (le-leb 33 c all.0.0, le-leb c 126 all.0.1) refl in
    let one : IsVisibleText (c ∷ []) =
    (c ∷ [], sym (encode_ascii c (omega (arith, all.0))) ∙ sym (append-nil (encode c)), (is, tt)) in
    visible_append (c ∷ []) cs one rest

-- each hexadecimal digit below n is printable
abbrev digits_visible : ℕ → Bool
digits_visible zero = true
digits_visible (suc n) =
    (nat_le 33 (slice_index lower_digits n) && nat_le (slice_index lower_digits n) 126)
    && digits_visible n

digit_visible : (n : ℕ) → digits_visible n ≡ true → (d : ℕ) → d < n
    → (33 ≤ slice_index lower_digits d) × (slice_index lower_digits d ≤ 126)
digit_visible zero h d low = absurd (omega arith)
digit_visible (suc n) h d low = elim (cases_lt d n) [
  | inl less ↦ digit_visible n (and_parts _ _ h).1 d less
  | inr last ↦
      let same : d ≡ n = omega arith in
      let range = and_parts _ _ (and_parts _ _ h).0 in
      rw same (leb-true _ _ range.0, leb-true _ _ range.1)
]

visible_byte_digits : (b : ℕ) → b < 256 → IsVisibleText (byte_digits b)
unfolding encode_with
visible_byte_digits b low =
    let high = digit_visible 16 refl (b / 16) (omega arith) in
    let next = digit_visible 16 refl (b % 16) (omega arith) in
    visible_ascii _ ((omega arith, omega arith), ((omega arith, omega arith), (high, (next, tt))))

visible_escaped_byte : (b : ℕ) → b < 256 → IsVisibleText (escaped_byte b)
visible_escaped_byte b low = elim (cases_Bool (is_printable_byte b)) [
  | inl held ↦
      let range = and_parts _ _ (and_parts _ _ held).0 in
      rw held (visible_ascii (b ∷ []) ((leb-true 33 b range.0, leb-true b 126 range.1), tt))
  | inr other ↦ rw other (visible_byte_digits b low)
]

visible_escaped_bytes : (bs : List ℕ) → AllByRecursion (λ (b : ℕ). b < 256) bs
    → IsVisibleText (flat_map escaped_byte bs)
visible_escaped_bytes [] low = ([], refl, tt)
visible_escaped_bytes (b ∷ bs) low =
    visible_append (escaped_byte b) (flat_map escaped_byte bs) (visible_escaped_byte b low.0)
    (visible_escaped_bytes bs low.1)

or_true : (b : Bool) → (b || true) ≡ true
or_true true = refl
or_true false = refl

visible_shown_character : (c : ℕ) → IsScalar c → IsVisibleText (shown_character c)
visible_shown_character c ok = elim (cases_Bool (is_shown_character c)) [
  | inl held ↦
      let is : is_visible_character c ≡ true = rw held (or_true _) in
      rw held (c ∷ [], sym (append-nil (encode c)), (is, tt))
  | inr other ↦ rw other (visible_escaped_bytes (encode c) (encode_low c ok))
]

visible_shown_characters : (cs : List ℕ) → scalars cs ≡ true
    → IsVisibleText (flat_map shown_character cs)
visible_shown_characters [] ok = ([], refl, tt)
visible_shown_characters (c ∷ cs) ok =
    visible_append (shown_character c) (flat_map shown_character cs)
    (visible_shown_character c (grind arith)) (visible_shown_characters cs (grind arith))

-- What is shown of a name is the UTF-8 of visible characters.
pub visible_shown_name : (utf8 : Bool) (bs : List ℕ) → ((i : ℕ) → slice_index bs i < 256)
    → IsVisibleText (shown_name utf8 bs)
visible_shown_name utf8 bs in_range = elim (cases_Bool (utf8 && is_utf8 bs)) [
  | inl held ↦
      let is = IsUtf8-from_is_utf8 bs (and_parts _ _ held).1 in
      rw held (visible_shown_characters (chars bs) (scalars-chars bs is))
  | inr other ↦ rw other (visible_escaped_bytes bs (all_bytes bs in_range))
]
