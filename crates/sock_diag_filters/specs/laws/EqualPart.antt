-- `==` of parts of a filter is true if and only if they are equal.
use Rattle.std.proofs.Common.{arith, rules, ◌≡◌, ◌↔◌, IsTrue, ap}
use Rattle.sock_diag_filters.specs.declared.condition.Condition.{Condition}
use Rattle.sock_diag_filters.specs.declared.text.parsed.Part.{Part}
use Rattle.sock_diag_filters.specs.declared.text.parsed.Part.TheVariants as variants
use Rattle.sock_diag_filters.specs.contracts.text.parsed.PartPartialEq.TheImpl.{ghosts as parts}
use Rattle.sock_diag_filters.specs.laws.EqualCondition.{condition_equal}

pub part_equal : (v w : Part) → IsTrue (parts.eq v w) ↔ (v ≡ w)
part_equal (variants.Condition c) (variants.Condition d) = (
  λ h. ap (λ (x : Condition). variants.Condition x) ((condition_equal c d).0 h),
  λ e. search rules,
)
part_equal v w = (λ h. grind arith, λ e. search rules)
