-- Texts of rows.
use Rattle.std.specs.Prelude.{◌≡◌, List, ℕ, Option, None, Some, refl, option_map}
use Rattle.std.specs.Borrow.{Bor}
use Rattle.sslist_facts.specs.Rows.{text_of}

-- An optional text has the same bytes as the code borrows it, and as a constant has it.
pub same : (text : Option (Bor (List ℕ)))
    → option_map (λ t. t.now) (option_map text_of text) ≡ option_map (λ t. t.now) text
same None = refl
same (Some text) = refl
