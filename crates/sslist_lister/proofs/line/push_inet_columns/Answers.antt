use Rattle.std.proofs.Common.{◌++◌, ap, ◌∙◌}
use Rattle.std.proofs.lemmas.Result.{on_ok_weaker}
use Rattle.sslist_texts.specs.Cells.{first_columns}
use Rattle.sslist_texts.proofs.Adding.{appended_texts_concatenate}
use Rattle.sslist_lister.proofs.line.push_inet_columns.Goals as goal

pub returns : goal.returns
returns c =
    let columns = c.in_ok-push_first_columns.ensures
    ∙ ap (λ cells. c.args.text.now.items ++ first_columns cells) c.inet_cells.ensures in
    rw (← c.is_v6_only-is_v6_only.ensures)
    (on_ok_weaker c.push_endpoint.result
    (λ last. appended_texts_concatenate _ _ _ _ _
    (appended_texts_concatenate _ _ _ _ _ columns c.in_ok-push_endpoint_column.ensures) last)
    c.push_endpoint.ensures)
