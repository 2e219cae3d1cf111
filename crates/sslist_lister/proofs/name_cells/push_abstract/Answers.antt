use Rattle.std.proofs.Common.{arith}
use Rattle.sslist_lister.proofs.NameCells.{abstract_cell}
use Rattle.sslist_lister.proofs.name_cells.push_abstract.Goals as goal

pub returns-in_err-push-clause-unescapes : goal.returns-in_err-push-clause-unescapes
returns-in_err-push-clause-unescapes c =
    λ behind none. abstract_cell c.args.utf8 c.args.address.now behind
    (λ i. omega (arith, c.type_inv.address i)) none

pub returns-clause-unescapes : goal.returns-clause-unescapes
returns-clause-unescapes c =
    λ behind none. abstract_cell c.args.utf8 c.args.address.now behind
    (λ i. omega (arith, c.type_inv.address i)) none
