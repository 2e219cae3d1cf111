-- A predicate for contracts that list the values of constants.
use Rattle.std.specs.Prelude.{ℕ, ◌==◌, List, IsTrue}
use Rattle.std.specs.List.{list_all}

-- `PairsAreEqual table`: both numbers of each pair in the table are equal: a constant, and the
-- value that the contract lists for it
abbrev pub PairsAreEqual : List (ℕ × ℕ) → Type 0
PairsAreEqual table = IsTrue (list_all (λ (constant, listed). constant == listed) table)
