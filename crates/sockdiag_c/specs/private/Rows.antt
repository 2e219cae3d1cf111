-- The fields of a struct after one more attribute.
use Rattle.std.specs.Prelude.{◌≡◌, List, [], ◌∷◌, MatchOption, Option, Some, ⊤}
use Rattle.std.specs.Option.{option_or}
use Rattle.sockdiag_c.specs.Family.{StructRow}

-- A struct of C before and after one more attribute.
pub record Change (D : Type 0) : Type 0 where
  pub old : D
  pub new : D

-- `AddsParts rows v change`: the parts of what an attribute says, `v`, are added to the struct. For
-- each row: if `v` has no part, the fields are unchanged. If it has the part `x`: a struct that had
-- a part (`o`) still has it, and one that had none (`o` is None, the fields are zeros) has `x`.
-- `row.contents o` is what the fields contain for `o`. Fields that contain neither a part nor zeros
-- do not occur, and nothing is stated of them.
abbrev pub AddsParts : {V D : Type 0} → List (StructRow V D) → V → Change D → Type 0
AddsParts [] v change = ⊤
AddsParts (row ∷ others) v change =
    MatchOption (row.part v) (row.fields change.new ≡ row.fields change.old)
    (λ x. (o : Option row.Part) → row.fields change.old ≡ row.contents o
    → row.fields change.new ≡ row.contents (option_or o (Some x)))
    × AddsParts others v change
