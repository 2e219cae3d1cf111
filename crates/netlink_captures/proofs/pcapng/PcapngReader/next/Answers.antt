use Rattle.std.proofs.Common.{◌++◌, subst, sym}
use Rattle.std.specs.Io.KnownBytes.{Consumes}
use Rattle.std.proofs.KnownBytes.{Consumes-trans}
use Rattle.netlink_captures.proofs.pcapng.PcapngReader.next.Goals as goal

pub returns-in-Ok-clause-read : goal.returns-in-Ok-clause-read
returns-in-Ok-clause-read g c =
    let head = rw c.if-not-branch.false at c.in_ok-fill_or_end.ensures.filled in
    let (more, stored, read, moves) = c.in-Ok.ensures.read in
    (subst (Consumes _ _) (sym stored) (Consumes-trans _ _ _ _ _ head read), moves)

pub returns-in-Err-clause-stopped : goal.returns-in-Err-clause-stopped
returns-in-Err-clause-stopped g c =
    let head = rw c.if-not-branch.false at c.in_ok-fill_or_end.ensures.filled in
    let (part, read, stop) = c.in-Err.ensures.stopped in
    (c.fill_or_end.new.bytes ++ part, Consumes-trans _ _ _ _ _ head read, stop)
