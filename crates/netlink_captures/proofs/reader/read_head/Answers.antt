use Rattle.std.proofs.Common.{◌++◌, arith, length-append}
use Rattle.std.proofs.KnownBytes.{Consumes-trans}
use Rattle.std.proofs.lemmas.Result.{IfErr-weaker}
use Rattle.netlink_captures.proofs.ReaderLemmas.{early_stop}
use Rattle.netlink_captures.proofs.reader.read_head.Goals as goal

pub returns-clause-stopped : goal.returns-clause-stopped
returns-clause-stopped g c =
    let magic = c.read_magic.new.magic in
    IfErr-weaker c.fill.result _ _
    (λ e (part, short, read, stop). (
      magic ++ part,
      omega (arith, short, length-append magic part),
      Consumes-trans _ _ _ _ _ c.in_ok-read_magic.ensures.read.1 read,
      early_stop _ _ magic part e (omega arith) c.in_ok-read_magic.ensures.read.0 stop,
    ))
    c.fill.ensures.stopped
