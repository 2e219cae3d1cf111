use Rattle.std.proofs.Common.{arith, rules}
use Rattle.netlink_captures.proofs.InputEnds.{packet_stops}
use Rattle.netlink_captures.proofs.captures.FileHeader.read_packet.Goals as goal

pub returns-in-Err-clause-stopped : goal.returns-in-Err-clause-stopped
returns-in-Err-clause-stopped g c =
    let got = rw c.if-not-branch.false at c.in_ok-fill_or_end.ensures.filled in
    let found = c.u32_at-length.ensures in
    packet_stops c.args.self.now _ _ _ _ c.fill_or_end.new.bytes _ (search rules)
    (omega (arith, found)) got (rw found at c.in-Err.ensures.stopped)
