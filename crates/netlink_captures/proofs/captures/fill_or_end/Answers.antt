use Rattle.std.proofs.Common.{◌++◌, take, arith}
use Rattle.std.proofs.lemmas.List.{length-append}
use Rattle.std.proofs.lemmas.Result.{err_from_is_err_and}
use Rattle.std.proofs.KnownBytes.{Consumes-trans}
use Rattle.netlink_captures.proofs.captures.fill_or_end.Goals as goal

pub returns-in_err-fill-clause-stopped : goal.returns-in_err-fill-clause-stopped
returns-in_err-fill-clause-stopped g c =
    let r = c.from_residual-in_err-fill in
    let p = err_from_is_err_and r.result r.ensures.1 in
    let (part, short, read, stop) = c.in_err-fill.ensures.stopped in
    let first = take c.in_ok-read_some.field-0 c.read_some.new.bytes in
    let bound = c.in_ok-read_some.ensures.bound in
    rw (p.1, p.2) (
      first ++ part,
      omega (arith, length-append first part, bound.0, bound.1),
      λ _. omega (arith, length-append first part, bound.1),
      Consumes-trans _ _ _ _ _ c.in_ok-read_some.ensures.bytes.0 read,
      stop,
    )
