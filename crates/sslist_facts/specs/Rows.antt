-- Rows of tables. The tables are constants of the code, which definitions name, so that each row is
-- written once.
use Rattle.std.specs.Prelude.{ℕ, List}
use Rattle.std.specs.Borrow.{Bor}

-- a text that a constant borrows: its bytes
abbrev pub Text : Type 0
Text = record { now : List ℕ }

-- a text that the code borrows, as a constant has it
abbrev pub text_of : Bor (List ℕ) → Text
text_of text = record { now = text.now }

-- a row of a number (`.0`) and a text, as a constant has it
abbrev pub numbered_row : ℕ × Bor (List ℕ) → ℕ × Text
numbered_row row = (row.0, text_of row.1)
