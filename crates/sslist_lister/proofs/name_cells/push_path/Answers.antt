use Rattle.std.proofs.Common.{arith}
use Rattle.sslist_lister.proofs.NameCells.{path_cell}
use Rattle.sslist_lister.proofs.name_cells.push_path.Goals as goal

pub returns-then-not-needs_escaped_first_byte-clause-unescapes :
    goal.returns-then-not-needs_escaped_first_byte-clause-unescapes
returns-then-not-needs_escaped_first_byte-clause-unescapes c =
    λ after none. path_cell c.args.utf8 c.args.path.now after
    (λ i. omega (arith, c.type_inv.path i)) none

pub returns-in_err-push_digits-clause-unescapes : goal.returns-in_err-push_digits-clause-unescapes
returns-in_err-push_digits-clause-unescapes c =
    λ after none. path_cell c.args.utf8 c.args.path.now after
    (λ i. omega (arith, c.type_inv.path i)) none

pub returns-clause-unescapes : goal.returns-clause-unescapes
returns-clause-unescapes c =
    λ after none. path_cell c.args.utf8 c.args.path.now after
    (λ i. omega (arith, c.type_inv.path i)) none
