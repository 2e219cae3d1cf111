use Rattle.sslist_texts.proofs.Adding.{appended_texts_concatenate}
use Rattle.sslist_lister.proofs.list.list_message.Goals as goal

pub returns-clause-diagnosed : goal.returns-clause-diagnosed
returns-clause-diagnosed c =
    let first = c.in_ok-push_optional_diagnostic.ensures in
    appended_texts_concatenate _ _ _ _ _
    (rw c.interrupted_diagnostic-interrupted.ensures at first.diagnostics)
    (rw (first.front, c.in_ok-diagnostic.ensures.diagnostic)
    at c.in_ok-push_explained_diagnostic.ensures.diagnostics)
