use Rattle.std.proofs.Common.{◌≡◌, ◌↔◌, IsTrue, ap, rules}
use Rattle.netlink_core.specs.laws.Equality.{false_decides}
use Rattle.netlink_core.specs.laws.EqualErrors.{decode_error_equal}
use Rattle.sock_diag_examples.specs.declared.lister.Line.{Line}
use Rattle.sock_diag_examples.specs.declared.lister.Line.TheVariants.{Socket, End, Failure, Refused}
use Rattle.sock_diag_examples.specs.contracts.lister.LinePartialEq.TheImpl.{ghosts}
use Rattle.sock_diag_examples.proofs.lister.equal_lines.Goals as goal

line_equal : (v w : Line) → IsTrue (ghosts.eq v w) ↔ (v ≡ w)
line_equal (Socket a b) (Socket x y) = search rules
line_equal End End = search rules
line_equal Failure Failure = search rules
line_equal (Refused a) (Refused b) =
    (λ h. ap Refused ((decode_error_equal a b).0 h), λ e. (decode_error_equal a b).1 cc)
line_equal v w = false_decides (λ p. cc)

pub returns : goal.returns
returns c = rw c.eq.ensures (line_equal c.args.v.now c.args.w.now)
