-- Appending to a text, and the parts that are appended.
use Rattle.std.specs.Prelude.{◌≡◌, ◌<◌, ◌+◌, ℕ, List, ◌∷◌, ◌++◌, length, take, drop, decimal}
use Rattle.std.specs.List.{slice_split}
use Rattle.sock_diag_lines.specs.HexField.{is_space, space}

-- `AppendsSome old new Holds`: the text `new` is the text `old`, and then some bytes, which have
-- the property `Holds`
abbrev pub AppendsSome : List ℕ → List ℕ → (List ℕ → Type 0) → Type 0
AppendsSome old new Holds = (more : List ℕ) × (new ≡ old ++ more) × Holds more

-- `IsFirstSpace line offset`: the first space of the line is at this offset, and splits the line
-- there
pub record IsFirstSpace (line : List ℕ) (offset : ℕ) : Type 0 where
  pub within : offset < length line
  pub cut : line ≡ take offset line ++ space ∷ drop (offset + 1) line
  -- the first field is before it, and the other fields are those of the bytes after it
  pub fields : slice_split is_space line
      ≡ take offset line ∷ slice_split is_space (drop (offset + 1) line)

-- `number_then_text number text`: the number in decimal, a space, and then the text
abbrev pub number_then_text : ℕ → List ℕ → List ℕ
number_then_text number text = decimal number ++ space ∷ text
