-- A result has at most one value.
use mathlib.Core.Path.{◌≡◌, ◌∙◌, path_j, refl, sym}
use Rattle.std.specs.Prelude.{⊤, Result, Ok, Err}

-- a value of the result, with the proof that it is the value
abbrev ValueOfResult : {A E : Type 0} → Result A E → Type 0
ValueOfResult {A} answer = (value : A) × (answer ≡ Ok value)

-- the value `a` of `Ok a`
abbrev own_result_value : {A E : Type 0} (a : A) → ValueOfResult {A = A} {E = E} (Ok a)
own_result_value a = (a, refl)

-- if the result is an `Ok`, its value with its proof equals `own_result_value a`
abbrev EqualsOwnResultValue : {A E : Type 0} (a : A) (answer : Result A E) → Ok a ≡ answer → Type 0
EqualsOwnResultValue {A} {E} a (Ok b) is =
    ◌≡◌ {A = ValueOfResult {A = A} {E = E} (Ok a)} (own_result_value a) (b, is)
EqualsOwnResultValue a (Err e) is = ⊤

own_result_value_is_only : {A E : Type 0} (a b : A) (is : ◌≡◌ {A = Result A E} (Ok a) (Ok b))
    → ◌≡◌ {A = ValueOfResult {A = A} {E = E} (Ok a)} (own_result_value a) (b, is)
own_result_value_is_only {A} {E} a b is =
    path_j (λ (answer : Result A E) is. EqualsOwnResultValue a answer is) refl is

error_has_no_value : {A E : Type 0} (e : E) (a : A) → Err e ≡ Ok a → ⊥
error_has_no_value e a is = cc

pub result_has_one_value : {A E : Type 0} (answer : Result A E) → IsProp (ValueOfResult answer)
result_has_one_value (Ok a) = λ x y. sym (own_result_value_is_only a x.0 x.1)
    ∙ own_result_value_is_only a y.0 y.1
result_has_one_value (Err e) = λ x y. absurd (error_has_no_value e x.0 x.1)
