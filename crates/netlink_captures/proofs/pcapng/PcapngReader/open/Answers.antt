use Rattle.std.proofs.Common.{◌++◌, subst}
use Rattle.netlink_captures.specs.Capture.{stopped_input}
use Rattle.netlink_captures.specs.Pcapng.{IsBlockStop, Position}
use Rattle.netlink_captures.proofs.pcapng.PcapngReader.open.Goals as goal

pub returns-in-Err-clause-stopped : goal.returns-in-Err-clause-stopped
returns-in-Err-clause-stopped g c =
    let (part, read, stop) = c.in-Err.ensures.stopped in
    let input = stopped_input (g.R.Source.left c.next_after.new.input)
    (g.R.Source.failed c.next_after.new.input) (c.args.head.now ++ part) in
    let at_start = subst (λ (p : Position). IsBlockStop p input c.in-Err.error)
    c.new-reader.ensures stop in
    (part, read, at_start)
