-- The kinds of attributes that are rejected.
use Rattle.std.proofs.Common.{◌≡◌, ◌<◌, ℕ, [], ◌∷◌, List, Some, arith}
use Rattle.std.specs.List.{AllByRecursion}
use Rattle.std.specs.Result.{result_err}
use Rattle.netlink_core.specs.declared.error.DecodeError.{DecodeError}
use Rattle.netlink_core.specs.Attribute.{Attribute, attribute_kind}
use Rattle.netlink_core.specs.AttributeSet.{AttributeSet, decode_attribute, kind_numbers}
use Rattle.sock_diag_any.specs.AnyNla.{KindRow, read_by, read_unknown}

-- only an attribute of a kind in the set can be rejected
pub rejected_kind_is_below : (F : AttributeSet) (n : ℕ)
    → AllByRecursion (λ (k : ℕ). k < n) (kind_numbers F)
    → (a : Attribute) (e : DecodeError) → result_err (decode_attribute F a) ≡ Some e
    → attribute_kind a < n
rejected_kind_is_below [] n below a e is = absurd cc
rejected_kind_is_below (spec ∷ others) n (first, later) a e is =
    grind (arith, rejected_kind_is_below others n later a e)

-- only an attribute of a kind in the table can be rejected
pub rejected_row_is_below : (rows : List KindRow) (n : ℕ)
    → AllByRecursion (λ (row : KindRow). row.kind < n) rows
    → (a : Attribute) (e : DecodeError) → result_err (read_by rows read_unknown a) ≡ Some e
    → attribute_kind a < n
rejected_row_is_below [] n below a e is = absurd cc
rejected_row_is_below (row ∷ others) n (first, later) a e is =
    grind (arith, rejected_row_is_below others n later a e)
