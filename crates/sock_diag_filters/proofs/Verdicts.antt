-- A run of a program has at most one verdict.
use Rattle.std.proofs.Common.{◌≡◌, ℕ, List, drop, refl, arith, Bool}
use Rattle.sock_diag_filters.specs.Run.{Runs, ends, goes_on, goes_past, distance_to_next}

module _ (condition_met : ℕ → List ℕ → Bool) where
  pub one_verdict : (left : List ℕ) (v w : Bool) → Runs condition_met left v
      → Runs condition_met left w → v ≡ w
  one_verdict left v w (ends l none) (ends m also) = refl
  one_verdict left v w (ends l none) (goes_past m some past) = absurd (omega arith)
  one_verdict left v w (ends l none) (goes_on m b some within more) = absurd (omega arith)
  one_verdict left v w (goes_past l some past) (ends m none) = absurd (omega arith)
  one_verdict left v w (goes_past l some past) (goes_past m also far) = refl
  one_verdict left v w (goes_past l some past) (goes_on m b also within more) =
      absurd (omega arith)
  one_verdict left v w (goes_on l a some within more) (ends m none) = absurd (omega arith)
  one_verdict left v w (goes_on l a some within more) (goes_past m also past) =
      absurd (omega arith)
  one_verdict left v w (goes_on l a some within more) (goes_on m b also inside others) =
      one_verdict (drop (distance_to_next condition_met left) left) v w more others
