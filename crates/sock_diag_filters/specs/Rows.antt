-- Rows of tables of words. The tables are constants of the code, which definitions name, so that
-- each word is written once. A text that a constant borrows is a `Text` there.
use Rattle.std.specs.Prelude.{ℕ, Bool, if◌then◌else◌, List, [], ◌∷◌, map, bytes_eq, Option, None}
use Rattle.std.specs.Prelude.{Some}
use Rattle.std.specs.Borrow.{Bor}
use Rattle.std.specs.Char.{to_ascii_lowercase}

-- A text that a constant borrows: its bytes.
abbrev pub Text : Type 0
Text = record { now : List ℕ }

-- A text that the code borrows, as a constant has it.
abbrev pub text_of : Bor (List ℕ) → Text
text_of text = record { now = text.now }

-- A row of a word (`.0`) and a value (`.1`), as a constant has it.
abbrev pub named_row : {Value : Type 0} → Bor (List ℕ) × Value → Text × Value
named_row row = (text_of row.0, row.1)

-- `value_of rows word`: the value of the first row with this word, or `None` if there is none.
abbrev pub value_of : {Value : Type 0} → List (Text × Value) → List ℕ → Option Value
value_of [] word = None
value_of (row ∷ later) word = if bytes_eq word row.0.now then Some row.1 else value_of later word

-- `is_name name text`: the name and the text are equal, except for the case of ASCII letters.
abbrev pub is_name : List ℕ → List ℕ → Bool
is_name name text = bytes_eq (map to_ascii_lowercase name) (map to_ascii_lowercase text)

-- `value_named rows name`: the value of the first row with this name, in upper or lower case, or
-- `None` if there is none.
abbrev pub value_named : {Value : Type 0} → List (Text × Value) → List ℕ → Option Value
value_named [] name = None
value_named (row ∷ later) name =
    if is_name name row.0.now then Some row.1 else value_named later name
