use Rattle.std.proofs.lemmas.Result.{on_ok_weaker}
use Rattle.sslist_texts.proofs.JsonWriting.{joined_numbers}
use Rattle.sslist_texts.proofs.json_writing.write_list.Goals as goal

pub returns-clause-members : goal.returns-clause-members
returns-clause-members c =
    on_ok_weaker c.end_array.result
    (λ last. joined_numbers _ _ _ _ _ c.args.name.now _ c.in_ok-key.ensures.ok
    c.in_ok-begin_array.ensures.ok c.in_ok-write_items.ensures.tokens last)
    c.end_array.ensures.ok
