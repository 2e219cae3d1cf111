use Rattle.std.proofs.lemmas.Result.{on_ok_weaker}
use Rattle.sslist_texts.proofs.JsonWriting.{joined_value}
use Rattle.sslist_facts.proofs.records.write_item.Goals as goal

pub returns-clause-tokens : goal.returns-clause-tokens
returns-clause-tokens g c =
    on_ok_weaker c.end_object.result
    (λ last. joined_value _ _ _ _ _ c.in_ok-begin_object.ensures.ok
    c.in_ok-write_members.ensures.members last)
    c.end_object.ensures.ok
