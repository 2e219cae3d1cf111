use Rattle.std.proofs.Common.{◌∙◌, ◌++◌, ap, sym, List}
use Rattle.std.proofs.lemmas.Result.{on_ok_weaker}
use Rattle.json.specs.Token.{Token}
use Rattle.sslist_texts.proofs.JsonWriting.{rows_are_members}
use Rattle.sslist_texts.proofs.json_writing.write_numbers.Goals as goal

pub returns-clause-members : goal.returns-clause-members
returns-clause-members c =
    on_ok_weaker c.write_rows.result
    (λ added. added ∙ ap (λ (t : List Token). c.args.writer.now.tokens ++ t)
    (sym (rows_are_members c.args.rows.now)))
    c.write_rows.ensures.tokens
