use Rattle.std.proofs.Common.{arith}
use Rattle.sockdiag_c.proofs.Rows.{memory_set}
use Rattle.sockdiag_c.proofs.family_values.Memory.set.Goals as goal

pub returns-then-self-eq0 : goal.returns-then-self-eq0
returns-then-self-eq0 c = λ o was.
    memory_set o c.args.self.now _ _ (omega arith) was c.from.ensures
