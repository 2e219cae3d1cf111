-- Names under `--utf8`.
use Rattle.std.proofs.Common.{arith, ◌≡◌, ◌&&◌, Bool, true, cond, List, ℕ, refl, IsUtf8, chars}
use Rattle.std.proofs.Common.{flat_map}
use Rattle.std.specs.Str.{is_utf8}
use Rattle.std.proofs.lemmas.Str.{IsUtf8-from_is_utf8, is_utf8-from_IsUtf8}
use Rattle.sslist_texts.specs.Escapes.{shown_character, escaped_byte, shown_name}

-- If `utf8` is set, valid UTF-8 is shown character by character.
pub utf8_is_shown_by_character : (utf8 : Bool) (bytes : List ℕ) → utf8 ≡ true → IsUtf8 bytes
    → flat_map shown_character (chars bytes) ≡ shown_name utf8 bytes
utf8_is_shown_by_character utf8 bytes asked is = rw (asked, is_utf8-from_IsUtf8 bytes is) refl

second_text_is_selected : (p q : Bool) (xs ys : List ℕ) → (q ≡ true → ⊥) → ys ≡ cond (p && q) xs ys
second_text_is_selected p q xs ys wrong =
    grind arith

-- Bytes that are not valid UTF-8 are shown byte by byte.
pub other_bytes_are_shown_by_byte : (utf8 : Bool) (bytes : List ℕ) → ¬ IsUtf8 bytes
    → flat_map escaped_byte bytes ≡ shown_name utf8 bytes
other_bytes_are_shown_by_byte utf8 bytes wrong =
    second_text_is_selected utf8 (is_utf8 bytes) _ _ (λ is. wrong (IsUtf8-from_is_utf8 bytes is))
