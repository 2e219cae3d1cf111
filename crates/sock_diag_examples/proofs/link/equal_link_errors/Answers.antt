use Rattle.std.proofs.Common.{◌≡◌, ◌↔◌, IsTrue, ap, rules}
use Rattle.netlink_core.specs.laws.Equality.{false_decides}
use Rattle.netlink_core.specs.laws.EqualErrors.{decode_error_equal}
use Rattle.sock_diag_examples.specs.declared.link.LinkError.{LinkError}
use Rattle.sock_diag_examples.specs.declared.link.LinkError.TheVariants.{TooShort, Attribute}
use Rattle.sock_diag_examples.specs.contracts.link.LinkErrorPartialEq.TheImpl.{ghosts}
use Rattle.sock_diag_examples.proofs.link.equal_link_errors.Goals as goal

errors_equal : (v w : LinkError) → IsTrue (ghosts.eq v w) ↔ (v ≡ w)
errors_equal (TooShort a) (TooShort x) = search rules
errors_equal (Attribute a) (Attribute x) =
    (λ h. ap Attribute ((decode_error_equal a x).0 h), λ e. (decode_error_equal a x).1 cc)
errors_equal v w = false_decides (λ p. cc)

pub returns : goal.returns
returns c = rw c.eq.ensures (errors_equal c.args.v.now c.args.w.now)
