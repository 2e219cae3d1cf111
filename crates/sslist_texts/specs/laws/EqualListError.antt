-- `==` of two errors of a run is true if and only if they are equal.
use Rattle.std.proofs.Common.{arith, rules, ◌≡◌, ◌↔◌, IsTrue}
use Rattle.netlink_captures.specs.contracts.equality.CaptureErrorExact.TheImpl.Laws.{
  exact-law as exact_capture_error,
}
use Rattle.program_streams.specs.contracts.equality.WriteErrorExact.TheImpl.Laws.{
  exact-law as exact_write_error,
}
use Rattle.sslist_texts.specs.declared.list_error.ListError.{ListError}
use Rattle.sslist_texts.specs.declared.list_error.ListError.TheVariants as errors
use Rattle.sslist_texts.specs.contracts.list_error.ListErrorPartialEq.TheImpl.{ghosts}

pub list_error_equal : (v w : ListError) → IsTrue (ghosts.eq v w) ↔ (v ≡ w)
list_error_equal (errors.Header a) (errors.Header b) = grind (arith, exact_capture_error.0 a b)
list_error_equal (errors.Packet n a) (errors.Packet m b) =
    grind (arith, exact_capture_error.0 a b)
list_error_equal (errors.Write a) (errors.Write b) = grind (arith, exact_write_error.0 a b)
list_error_equal errors.Memory errors.Memory = search rules
list_error_equal v w = (λ h. search rules, λ e. search rules)
