use Rattle.std.proofs.Common.{append_assoc}
use Rattle.sslist_texts.proofs.output.push_truncation_line.Goals as goal

pub returns-in-Ok-clause-diagnostics : goal.returns-in-Ok-clause-diagnostics
returns-in-Ok-clause-diagnostics c = simp (c.in-Ok.ensures.bytes, append_assoc)
