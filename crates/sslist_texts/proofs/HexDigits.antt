-- The hexadecimal digits of a number: those of all but its last four bits, and one for these.
use Rattle.std.proofs.Common.{◌≡◌, ℕ, zero, suc, ◌-◌, ◌/◌, ◌%◌, ◌<◌, ◌≤◌, ◌^◌, List, [], ◌∷◌}
use Rattle.std.proofs.Common.{◌++◌, refl, sym, ap, ◌∙◌, arith, append_assoc, false, inl, inr}
use Rattle.std.specs.Fmt.{digit_glyph, digits, digits_onto}
use Rattle.std.proofs.DigitsParse.{digits_onto-nil, digits_onto_last, digits_onto_step}
use Rattle.std.proofs.lemmas.Bool.{cases_lt}

-- the last `k` digits of a number at most, and the list `after`
abbrev spelled : ℕ → ℕ → List ℕ → List ℕ
spelled k n after = digits_onto k 16 false n after

abbrev last : ℕ → ℕ
last n = digit_glyph false (n % 16)

spelled_one : (k n : ℕ) (after : List ℕ) → n < 16 → spelled (suc k) n after ≡ last n ∷ after
spelled_one k n after small =
    digits_onto_last 16 false n after (suc k) (omega arith) (omega arith)

spelled_more : (k n : ℕ) (after : List ℕ) → 16 ≤ n
    → spelled (suc k) n after ≡ spelled k (n / 16) (last n ∷ after)
spelled_more k n after large =
    digits_onto_step 16 false n after (suc k) (omega arith) (λ e. omega arith)
    ∙ ap (λ (j : ℕ). spelled j (n / 16) (last n ∷ after)) {x = suc k - 1} {y = k} (omega arith)

spelled_append : (k n : ℕ) (after : List ℕ) → spelled k n after ≡ spelled k n [] ++ after
spelled_append zero n after = refl
spelled_append (suc k) n after = elim (cases_lt n 16) [
  | inl small ↦ spelled_one k n after small
      ∙ ap (λ (t : List ℕ). t ++ after) (sym (spelled_one k n [] small))
  | inr large ↦ spelled_more k n after large
      ∙ spelled_append k (n / 16) (last n ∷ after)
      ∙ sym (append_assoc (spelled k (n / 16) []) (last n ∷ []) after)
      ∙ ap (λ (t : List ℕ). t ++ after) (sym (spelled_more k n [] large
      ∙ spelled_append k (n / 16) (last n ∷ [])))
]

-- A number of digits that is large enough does not matter.
spelled_enough : (j k n : ℕ) (after : List ℕ) → n < 16 ^ suc j → n < 16 ^ suc k
    → spelled (suc j) n after ≡ spelled (suc k) n after
spelled_enough zero k n after p q =
    spelled_one zero n after (omega arith) ∙ sym (spelled_one k n after (omega arith))
spelled_enough (suc j) zero n after p q =
    spelled_one (suc j) n after (omega arith) ∙ sym (spelled_one zero n after (omega arith))
spelled_enough (suc j) (suc k) n after p q = elim (cases_lt n 16) [
  | inl small ↦ spelled_one (suc j) n after small ∙ sym (spelled_one (suc k) n after small)
  | inr large ↦ spelled_more (suc j) n after large
      ∙ spelled_enough j k (n / 16) (last n ∷ after) (omega arith) (omega arith)
      ∙ sym (spelled_more (suc k) n after large)
]

pub hex_digits_of : (n : ℕ) → 16 ≤ n → n < 2 ^ 64
    → digits 16 false n ≡ digits 16 false (n / 16) ++ (digit_glyph false (n % 16) ∷ [])
hex_digits_of n large small =
    sym (digits_onto-nil 16 false n)
    ∙ spelled_more 63 n [] large
    ∙ spelled_enough 62 63 (n / 16) (last n ∷ []) (omega arith) (omega arith)
    ∙ spelled_append 64 (n / 16) (last n ∷ [])
    ∙ ap (λ (t : List ℕ). t ++ (last n ∷ [])) (digits_onto-nil 16 false (n / 16))
