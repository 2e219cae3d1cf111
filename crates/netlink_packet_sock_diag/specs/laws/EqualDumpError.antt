-- `==` of two errors of a dump is true if and only if they are equal.
use Rattle.std.proofs.Common.{arith, ◌≡◌, ◌↔◌, IsTrue, rules}
use Rattle.netlink_core.specs.laws.EqualErrors.{decode_error_equal}
use Rattle.netlink_core.specs.laws.Equality.{false_decides}
use Rattle.netlink_packet_sock_diag.specs.declared.dump.DumpError.{DumpError}
use Rattle.netlink_packet_sock_diag.specs.declared.dump.DumpError.TheVariants.{Fault, Ended}
use Rattle.netlink_packet_sock_diag.specs.contracts.dump.DumpErrorPartialEq.TheImpl.{ghosts}

pub dump_error_equal : (v w : DumpError) → IsTrue (ghosts.eq v w) ↔ (v ≡ w)
dump_error_equal (Fault a) (Fault b) =
    grind (arith, decode_error_equal a b)
dump_error_equal Ended Ended = search rules
dump_error_equal v w = false_decides (λ p. cc)
