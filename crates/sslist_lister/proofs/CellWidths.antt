-- Columns that a cell takes in a terminal.
use Rattle.std.proofs.Common.{arith, append_assoc, ◌++◌, drop}
use Rattle.std.proofs.Common.{◌≡◌, ◌&&◌, Bool, true, false, cond, List, ℕ, refl, IsUtf8}
use Rattle.std.proofs.Common.{ap, ◌∙◌}
use Rattle.std.proofs.Common.{chars, length}
use Rattle.std.specs.Str.{is_utf8}
use Rattle.std.proofs.Math.Seq.{drop-append_seam}
use Rattle.std.proofs.lemmas.Str.{IsUtf8-from_is_utf8, is_utf8-from_IsUtf8}
use Rattle.unicode_width.specs.Width.{str_width}
use Rattle.sslist_lister.specs.Widths.{cell_width, name_column, spaces_after}

-- If `utf8` is set, valid UTF-8 has the width of its characters.
pub utf8_has_width_of_characters : (utf8 : Bool) (cell : List ℕ) → utf8 ≡ true → IsUtf8 cell
    → str_width false (chars cell) ≡ cell_width utf8 cell
utf8_has_width_of_characters utf8 cell is_set is = rw (is_set, is_utf8-from_IsUtf8 cell is) refl

second_number_is_selected : (p q : Bool) (x y : ℕ) → (q ≡ true → ⊥) → y ≡ cond (p && q) x y
second_number_is_selected p q x y wrong =
    grind arith

-- Bytes that are not valid UTF-8 have a column for each byte.
pub other_bytes_have_columns : (utf8 : Bool) (cell : List ℕ) → ¬ IsUtf8 cell
    → length cell ≡ cell_width utf8 cell
other_bytes_have_columns utf8 cell wrong =
    second_number_is_selected utf8 (is_utf8 cell) _ _ (λ is. wrong (IsUtf8-from_is_utf8 cell is))

-- A cell that is appended, and then the spaces after it, are its column.
pub cell_and_spaces_are_column : (utf8 : Bool) (width start : ℕ) (old cell mid new : List ℕ)
    → start ≡ length old → mid ≡ old ++ cell
    → new ≡ mid ++ spaces_after utf8 width (drop start mid)
    → new ≡ old ++ name_column utf8 width cell
cell_and_spaces_are_column utf8 width start old cell mid new begin first second =
    let after : drop start mid ≡ cell =
    rw begin (ap (drop (length old)) first ∙ drop-append_seam old cell) in
    second ∙ rw (after, first) (append_assoc old cell (spaces_after utf8 width cell))
