use Rattle.std.proofs.Common.{◌∙◌, ◌++◌, ap, sym, List}
use Rattle.std.proofs.lemmas.Result.{on_ok_weaker}
use Rattle.json.specs.Token.{Token}
use Rattle.sslist_facts.specs.RecordFacts.{records_in}
use Rattle.sslist_texts.specs.JsonData.{object_of}
use Rattle.sslist_texts.proofs.JsonWriting.{items_of_map, joined_array}
use Rattle.sslist_facts.proofs.records.write_records.Goals as goal

pub returns-clause-members : goal.returns-clause-members
returns-clause-members g c =
    let shown = g.T.ShownRecord in
    let layout = g.T.AttributeRecord.layout in
    let items = items_of_map (λ r. object_of (shown.record_members r))
    (records_in layout c.args.value.now) in
    on_ok_weaker c.end_array.result
    (λ last. joined_array _ _ _ _ _ _ _ c.in_ok-key.ensures.ok c.in_ok-begin_array.ensures.ok
    (c.in_ok-write_items.ensures.tokens
    ∙ ap (λ (t : List Token). c.begin_array.new.self.tokens ++ t) (sym items)) last)
    c.end_array.ensures.ok
