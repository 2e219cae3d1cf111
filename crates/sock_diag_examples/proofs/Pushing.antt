-- The values in a list after one more element.
use Rattle.std.proofs.Common.{◌≡◌, List, [], ◌∷◌, ◌++◌, Option, Some, None, refl, ◌∙◌}
use Rattle.std.specs.List.{filter_map}
use Rattle.std.proofs.lemmas.List.{append-nil}
use Rattle.std.proofs.lemmas.List.Elements.{filter_map-append}

-- an element with a value appends it
pub value_is_appended : {A B : Type 0} (made : A → Option B) (xs : List A) (x : A) (y : B)
    → made x ≡ Some y
    → filter_map made (xs ++ x ∷ []) ≡ filter_map made xs ++ y ∷ []
value_is_appended made xs x y e = filter_map-append made xs (x ∷ []) ∙ rw e refl

-- an element without a value appends nothing
pub nothing_is_appended : {A B : Type 0} (made : A → Option B) (xs : List A) (x : A) → made x ≡ None
    → filter_map made (xs ++ x ∷ []) ≡ filter_map made xs
nothing_is_appended made xs x e =
    filter_map-append made xs (x ∷ []) ∙ rw e (append-nil (filter_map made xs))
