use Rattle.std.proofs.Common.{◌++◌, ap, ◌∙◌}
use Rattle.std.proofs.lemmas.Result.{on_ok_weaker}
use Rattle.sslist_texts.specs.Cells.{first_columns}
use Rattle.sslist_texts.proofs.Adding.{appended_texts_concatenate}
use Rattle.sslist_lister.proofs.others.push_other_columns.Goals as goal

pub returns : goal.returns
returns c =
    let columns = c.in_ok-push_first_columns.ensures
    ∙ ap (λ cells. c.args.text.now.items ++ first_columns cells) c.other_cells.ensures in
    on_ok_weaker c.push_optional_address.result
    (λ last. appended_texts_concatenate _ _ _ _ _
    (appended_texts_concatenate _ _ _ _ _ columns c.in_ok-push_local.ensures) last)
    c.push_optional_address.ensures
