use Rattle.std.proofs.Common.{rules, ◌≡◌, length}
use Rattle.std.proofs.lemmas.Result.{on_ok_weaker}
use Rattle.sslist_lister.proofs.CellWidths.{cell_and_spaces_are_column}
use Rattle.sslist_lister.proofs.name_cells.push_name_column.Goals as goal

pub returns : goal.returns
returns c =
    let begin : c.len-start.result ≡ length c.args.text.now.items = search rules in
    on_ok_weaker c.end_name_column.result
    (λ last. cell_and_spaces_are_column c.args.utf8 c.args.width c.len-start.result
    c.args.text.now.items _ _ _ begin c.in_ok-push_name.ensures last)
    c.end_name_column.ensures
