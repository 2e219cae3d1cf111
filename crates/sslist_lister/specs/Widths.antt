-- Columns that a cell takes in a terminal.
use Rattle.std.specs.Prelude.{ℕ, if◌then◌else◌, ◌&&◌, Bool, false, List, ◌++◌, chars, length}
use Rattle.std.specs.Str.{is_utf8}
use Rattle.unicode_width.specs.Width.{str_width}
use Rattle.sslist_texts.specs.Cells.{column_padding}

-- `cell_width utf8 cell`: the number of columns of a cell: the width of its characters, as
-- `unicode_width` counts it, if `--utf8` is set (`utf8`) and the cell is valid UTF-8; or else the
-- number of its bytes. `false`: characters of ambiguous width are narrow.
abbrev pub cell_width : Bool → List ℕ → ℕ
cell_width utf8 cell =
    if utf8 && is_utf8 cell then str_width false (chars cell) else length cell

-- `spaces_after utf8 width cell`: the spaces after a cell
abbrev pub spaces_after : Bool → ℕ → List ℕ → List ℕ
spaces_after utf8 width cell = column_padding width (cell_width utf8 cell)

-- `name_column utf8 width cell`: the column of a socket's name: the cell, padded with spaces up to
-- a width, and one more space
abbrev pub name_column : Bool → ℕ → List ℕ → List ℕ
name_column utf8 width cell = cell ++ spaces_after utf8 width cell
