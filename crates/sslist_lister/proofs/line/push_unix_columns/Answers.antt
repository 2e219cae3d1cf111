use Rattle.std.proofs.Common.{◌++◌, ap, ◌∙◌}
use Rattle.std.proofs.lemmas.Result.{on_ok_weaker}
use Rattle.sslist_texts.specs.Cells.{first_columns}
use Rattle.sslist_texts.proofs.Adding.{appended_texts_concatenate}
use Rattle.sslist_lister.proofs.line.push_unix_columns.Goals as goal

pub returns : goal.returns
returns c =
    let columns = c.in_ok-push_first_columns.ensures
    ∙ ap (λ cells. c.args.text.now.items ++ first_columns cells) c.unix_cells-cells.ensures in
    rw (
      ← c.queues_in.ensures,
      ← c.user_in.ensures,
      ← c.name_in.ensures,
      ← c.peer_in.ensures,
    )
    (on_ok_weaker c.push_number_or_star.result
    (λ last. appended_texts_concatenate _ _ _ _ _
    (appended_texts_concatenate _ _ _ _ _ columns c.in_ok-push_name_column.ensures) last)
    c.push_number_or_star.ensures)
