-- Tests of equality, composed of tests of the parts.
use Rattle.std.proofs.Common.{◌≡◌, ◌↔◌, ◌&&◌, ℕ, List, ◌∷◌, Bool, true, false, eqb, IsTrue, map}
use Rattle.std.proofs.Common.{rules, arith}
use Rattle.std.specs.Cmp.{IsEquivalence, both_ways}
use lib.Pointwise.{pointwise}

-- a conjunction of tests holds if and only if each test holds
pub conjunction_parts : (a b : Bool) → IsTrue (a && b) → IsTrue a × IsTrue b
conjunction_parts a b h = search rules

pub conjunction_of_both : (a b : Bool) → IsTrue a → IsTrue b → IsTrue (a && b)
conjunction_of_both a b h k = search rules

-- a conjunction of tests decides the conjunction of what they decide
pub and_decides : {P Q : Type 0} {a b : Bool} → IsTrue a ↔ P → IsTrue b ↔ Q
    → IsTrue (a && b) ↔ (P × Q)
and_decides {P} {Q} {a} {b} f g =
    grind (arith, conjunction_parts a b, conjunction_of_both a b)

pub numbers_equal : (x y : ℕ) → IsTrue (eqb x y) ↔ (x ≡ y)
numbers_equal x y = (λ h. search rules, λ e. search rules)

-- testing lists element by element decides whether the models of their elements are equal
pub lists_equal : {A V : Type 0} (test : A → A → Bool) (model : A → V) (decides : (a b : A)
    → IsTrue (test a b) ↔ (model a ≡ model b)) (xs ys : List A)
    → IsTrue (pointwise test xs ys) ↔ (map model xs ≡ map model ys)
lists_equal test model decides (x ∷ xs) (y ∷ ys) =
    grind (arith, and_decides (decides x y) (lists_equal test model decides xs ys))
lists_equal test model decides xs ys = grind arith

-- `false` decides a statement that never holds, such as the equality of two variants
pub false_decides : {P : Type 0} → (P → ⊥) → IsTrue false ↔ P
false_decides never = (λ h. absurd (let e : false ≡ true = h in cc), λ p. absurd (never p))

-- two tests that decide the same statement are equal
pub same_test : {P : Type 0} (a b : Bool) → IsTrue a ↔ P → IsTrue b ↔ P → a ≡ b
same_test a b f g = both_ways a b (λ h. g.1 (f.0 h)) (λ h. f.1 (g.0 h))

-- a test that decides whether models are equal is an equivalence
pub equivalence : {K V : Type 0} (test : K → K → Bool) (model : K → V)
    → ((x y : K) → IsTrue (test x y) ↔ (model x ≡ model y)) → IsEquivalence test
equivalence test model decides =
    grind arith
