use Rattle.std.proofs.Common.{◌≡◌, ◌↔◌, IsTrue, ap, rules}
use Rattle.netlink_core.specs.laws.Equality.{false_decides}
use Rattle.netlink_core.specs.laws.EqualErrors.{decode_error_equal}
use Rattle.sock_diag_examples.specs.declared.test_kernel.AnswerError.{AnswerError}
use Rattle.sock_diag_examples.specs.declared.test_kernel.AnswerError.TheVariants as errors
use Rattle.sock_diag_examples.specs.contracts.test_kernel.AnswerErrorPartialEq.TheImpl.{ghosts}
use Rattle.sock_diag_examples.proofs.test_kernel.equal_answer_errors.Goals as goal

errors_equal : (v w : AnswerError) → IsTrue (ghosts.eq v w) ↔ (v ≡ w)
errors_equal (errors.Request a) (errors.Request x) =
    (λ h. ap errors.Request ((decode_error_equal a x).0 h), λ e. (decode_error_equal a x).1 cc)
errors_equal errors.Unwritable errors.Unwritable = search rules
errors_equal errors.Memory errors.Memory = search rules
errors_equal v w = false_decides (λ p. cc)

pub returns : goal.returns
returns c = rw c.eq.ensures (errors_equal c.args.v.now c.args.w.now)
