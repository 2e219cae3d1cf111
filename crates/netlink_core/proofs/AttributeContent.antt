-- A decoded value is found under the kind of its type, and under no other kind.
use Rattle.std.proofs.Common.{◌≡◌, ◌==◌, ℕ, suc, List, ◌∷◌, Bool, true, false, Option, Some, None}
use Rattle.std.proofs.Common.{◌⊎◌, inl, inr, [], refl, arith}
use Rattle.std.specs.Prelude.{◌≢◌, cond, Contains}
use Rattle.std.proofs.lemmas.Bool.Decides.{nat_tests}
use Rattle.std.proofs.lemmas.Map.Made.{Contains-tail}
use Rattle.netlink_core.specs.AttributeSet.{AttributeSet, AttributeValue, ValueOfKind, inject}
use Rattle.netlink_core.specs.AttributeSet.{project, value_as_decoded, value_of_kind, kind_numbers}

-- `A` is the type of the values of the first type of a set.
module _ (A : Type 0) where
  -- projecting from the side to which a value was injected yields the value
  project_of_injected : {B C : Type 0} (t : Bool) (make : B → C) (find : C
      → Option B) (x : cond t A B)
      → (t ≡ false → (y : B) → find (make y) ≡ Some y) → project t find (inject t make x) ≡ Some x
  project_of_injected true make find x later = refl
  project_of_injected false make find x later = later refl x

  -- projecting from another side yields `None`
  project_from_other_side : {B C D : Type 0} (s t : Bool) (make : B → C) (find : C → Option D)
      → (x : cond t A B) → (s ≡ true → t ≡ true → ⊥) → ((y : B) → find (make y) ≡ None)
      → project s find (inject t make x) ≡ None
  project_from_other_side true true make find x apart later = absurd (apart refl refl)
  project_from_other_side true false make find x apart later = refl
  project_from_other_side false true make find x apart later = refl
  project_from_other_side false false make find x apart later = later x

not_found : {A B C : Type 0} (t : Bool) (find : C → Option B) (v : A ⊎ C) → t ≡ false
    → ((w : C) → find w ≡ None) → project t find v ≡ None
not_found true find v e later = cc
not_found false find (inl x) e later = refl
not_found false find (inr w) e later = later w

-- a number that is in a list is in a longer list
contains_later : (n : ℕ) (ns : List ℕ) (k : ℕ) → Contains ns k → Contains (n ∷ ns) k
contains_later n ns k (i, below, same) = (suc i, omega arith, same)

-- a number that is not in a list is not its first element
first_differs : (n : ℕ) (ns : List ℕ) (k : ℕ) → (Contains (n ∷ ns) k → ⊥) → (n == k) ≡ false
first_differs n ns k has_not =
    let differ : n ≢ k = λ e. has_not (0, omega arith, e) in
    grind (arith, nat_tests)

pub value_of_own_kind : (F : AttributeSet) (k : ℕ) (x : ValueOfKind F k)
    → Contains (kind_numbers F) k
    → value_of_kind F k (value_as_decoded F k x) ≡ Some x
value_of_own_kind [] k x (i, below, same) = absurd (omega arith)
value_of_own_kind (spec ∷ others) k x has =
    project_of_injected _ (spec.number == k) (value_as_decoded others k) (value_of_kind others k) x
    (λ e y. value_of_own_kind others k y
    (Contains-tail spec.number (kind_numbers others) k (grind (arith, nat_tests)) has))

pub no_value_of_other_kind : (F : AttributeSet) (k j : ℕ) (x : ValueOfKind F k) → j ≢ k
    → value_of_kind F j (value_as_decoded F k x) ≡ None
no_value_of_other_kind [] k j x differ = refl
no_value_of_other_kind (spec ∷ others) k j x differ =
    project_from_other_side _ (spec.number == j) (spec.number == k) (value_as_decoded others k)
    (value_of_kind others j) x (grind (arith, nat_tests))
    (λ y. no_value_of_other_kind others k j y differ)

pub no_value_of_unknown_kind : (F : AttributeSet) (k : ℕ) (v : AttributeValue F)
    → (Contains (kind_numbers F) k → ⊥) → value_of_kind F k v ≡ None
no_value_of_unknown_kind [] k v has_not = refl
no_value_of_unknown_kind (spec ∷ others) k v has_not =
    not_found (spec.number == k) (value_of_kind others k) v
    (first_differs spec.number (kind_numbers others) k has_not)
    (λ w. no_value_of_unknown_kind others k w
    (λ has. has_not (contains_later spec.number (kind_numbers others) k has)))
