use Rattle.std.proofs.Common.{arith}
use Rattle.sslist_lister.proofs.json_laws.prove_bytes_in_range.Goals as goal

pub returns : goal.returns
returns c = λ i. omega (arith, c.type_inv.bytes i)
