use Rattle.std.proofs.Common.{◌++◌, take, append_assoc, take-append-drop}
use Rattle.std.proofs.lemmas.List.{take_rest}
use Rattle.std.proofs.KnownBytes.{Appends-trans}
use Rattle.program_streams.proofs.streams.send.Goals as goal

pub writes-preserved : goal.writes-preserved
writes-preserved g c =
    let (front, split, appended) = c.writes.invariant in
    let rest = c.writes.unsent.now in
    let n = c.in_ok-count.count in
    let sent = Appends-trans _ _ _ _ _ appended c.in_ok-count.ensures.bytes in
    (front ++ take n rest, rw (take_rest rest n, append_assoc, take-append-drop) split, sent)
