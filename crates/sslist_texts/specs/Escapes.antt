-- Escapes in names, so that a name cannot break a line or a column. Texts are lists of bytes.
use Rattle.std.specs.Prelude.{ℕ, zero, suc, ◌+◌, ◌-◌, ◌*◌, ◌==◌, nat_le, if◌then◌else◌, Bool, true}
use Rattle.std.specs.Prelude.{◌≡◌, ◌||◌, not, false, ◌&&◌, List, [], slice_index, ◌∷◌, chars}
use Rattle.std.specs.Prelude.{encode_utf8, flat_map, codes, length}
use Rattle.std.specs.List.{AllByRecursion}
use Rattle.std.specs.Str.{is_utf8}
use Rattle.hex.specs.Hex.{encode_lower}
use Rattle.ucd_bidi.specs.BidiClass.{bidi_class}
use Rattle.ucd_bidi.specs.declared.BidiClass.{BidiClass}
use Rattle.ucd_bidi.specs.declared.BidiClass.TheVariants as bidi_class_variants
use Rattle.ucd_category.specs.GeneralCategory.{general_category}
use Rattle.ucd_category.specs.GeneralCategoryGroup.{in_group}
use Rattle.ucd_category.specs.declared.GeneralCategory.{GeneralCategory}
use Rattle.ucd_category.specs.declared.GeneralCategoryGroup.TheVariants.{Letter, Number}
use Rattle.ucd_category.specs.declared.GeneralCategoryGroup.TheVariants.{Punctuation, Symbol}
use Rattle.unicode.specs.Binary.{is_default_ignorable_code_point}
use Rattle.sslist_texts.specs.declared.names.TheConstants.{BRAILLE_BLANK, NULL_NOTEHEAD}
use Rattle.sslist_texts.specs.declared.names.TheConstants.{HIEROGLYPH_FULL_BLANK}
use Rattle.sslist_texts.specs.declared.names.TheConstants.{HIEROGLYPH_HALF_BLANK}

-- a byte that is shown unchanged: from `!` (33) to `~` (126), except the backslash (92)
abbrev pub is_printable_byte : ℕ → Bool
is_printable_byte byte = (nat_le 33 byte && nat_le byte 126) && not (byte == 92)

-- a backslash (92), `x` (120) and the two lowercase hexadecimal digits of a byte
abbrev pub byte_digits : ℕ → List ℕ
byte_digits byte = 92 ∷ 120 ∷ encode_lower (byte ∷ [])

-- a printable byte unchanged, any other as `\x` and two digits
abbrev pub escaped_byte : ℕ → List ℕ
escaped_byte byte = if is_printable_byte byte then byte ∷ [] else byte_digits byte

-- An argument or the name of a file as it is shown on standard error: each byte as it is escaped,
-- or `''` if there is none.
abbrev pub shown_argument : List ℕ → List ℕ
shown_argument bytes = if length bytes == 0 then codes "''" else flat_map escaped_byte bytes

-- ---- names under `--utf8`

-- The general categories of characters that `--utf8` shows: letters, numbers, punctuation and
-- symbols. The others are marks, separators, controls, format characters, surrogates, private use
-- and unassigned.
abbrev pub is_visible_category : GeneralCategory → Bool
is_visible_category category =
    in_group Letter category || in_group Number category || in_group Punctuation category
    || in_group Symbol category

-- The bidirectional classes of characters that `--utf8` shows. They are written from left to right,
-- or take the direction of their neighbors. The others are those of letters written from right to
-- left, of Arabic numbers, marks and spaces, and of characters that control the direction.
abbrev pub is_left_to_right : BidiClass → Bool
is_left_to_right bidi_class_variants.LeftToRight = true
is_left_to_right bidi_class_variants.EuropeanNumber = true
is_left_to_right bidi_class_variants.EuropeanSeparator = true
is_left_to_right bidi_class_variants.EuropeanTerminator = true
is_left_to_right bidi_class_variants.CommonSeparator = true
is_left_to_right bidi_class_variants.OtherNeutral = true
is_left_to_right _ = false

-- Characters that are blank although their category is visible: fillers, which programs may ignore
-- (Default_Ignorable_Code_Point), BRAILLE PATTERN BLANK, MUSICAL SYMBOL NULL NOTEHEAD, and EGYPTIAN
-- HIEROGLYPH FULL BLANK and HALF BLANK.
abbrev pub is_blank : ℕ → Bool
is_blank character =
    is_default_ignorable_code_point character || character == BRAILLE_BLANK
    || character == NULL_NOTEHEAD || character == HIEROGLYPH_FULL_BLANK
    || character == HIEROGLYPH_HALF_BLANK

-- A character that `--utf8` shows: it is not ASCII, its general category is visible, it is written
-- from left to right or takes the direction of its neighbors, and it is not blank. So none is a
-- control, separator, format or combining character, unassigned, or written from right to left.
unfoldable pub is_shown_character : ℕ → Bool
is_shown_character character =
    nat_le 0x80 character && (is_visible_category (general_category character)
    && (is_left_to_right (bidi_class character) && not (is_blank character)))

-- The UTF-8 bytes of a character (its code point). They are unchanged if `is_shown_character`
-- holds. Else each byte is escaped if it is not printable.
abbrev pub shown_character : ℕ → List ℕ
shown_character character =
    if is_shown_character character then encode_utf8 character
    else flat_map escaped_byte (encode_utf8 character)

-- `shown_name utf8 bytes`: a name as it is shown: character by character if `utf8` is set and the
-- bytes are valid UTF-8, or else byte by byte.
abbrev pub shown_name : Bool → List ℕ → List ℕ
shown_name utf8 bytes =
    if utf8 && is_utf8 bytes then flat_map shown_character (chars bytes)
    else flat_map escaped_byte bytes

-- a character from `!` (33) to `~` (126), or one that `--utf8` shows
abbrev pub is_visible_character : ℕ → Bool
is_visible_character character =
    (nat_le 33 character && nat_le character 126) || is_shown_character character

-- The text is the UTF-8 of visible characters. So it has no space, no control character (C0 or C1),
-- and no format character such as those that control the direction of writing.
abbrev pub IsVisibleText : List ℕ → Type 0
IsVisibleText text =
    (characters : List ℕ) × (text ≡ flat_map encode_utf8 characters)
    × AllByRecursion (λ (character : ℕ). is_visible_character character ≡ true) characters

-- ---- the name that a shown text represents

-- the value of a hexadecimal digit: `a` to `f` are 97 to 102, `0` to `9` are 48 to 57
abbrev pub hex_digit_value : ℕ → ℕ
hex_digit_value digit = if nat_le 97 digit then digit - 97 + 10 else digit - 48

-- `unescaped_bytes skipped text`: the bytes that a shown text represents after the first `skipped`
-- bytes, up to the first space (32). A backslash (92) is followed by `x` and two hexadecimal
-- digits, which represent one byte. Every other byte represents itself. Example: with none skipped,
-- the text `a\x20b c` represents the three bytes `a b`.
unfoldable pub unescaped_bytes : ℕ → List ℕ → List ℕ
unescaped_bytes skipped [] = []
unescaped_bytes (suc skipped) (byte ∷ text) = unescaped_bytes skipped text
unescaped_bytes zero (byte ∷ text) =
    if byte == 32 then []
    else if byte == 92
    then (16 * hex_digit_value (slice_index text 1) + hex_digit_value (slice_index text 2))
    ∷ unescaped_bytes 3 text
    else byte ∷ unescaped_bytes 0 text
