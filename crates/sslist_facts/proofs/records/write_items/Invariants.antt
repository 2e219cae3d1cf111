use Rattle.std.proofs.Common.{◌≡◌, ◌++◌, flat_map, length}
use Rattle.json.specs.Tree.{json_tokens}
use Rattle.sslist_facts.specs.RecordFacts.{records_in}
use Rattle.sslist_texts.specs.JsonData.{object_of}
use Rattle.sslist_facts.proofs.records.write_items.Given as goal

-- the text before the writer's is unchanged, and the tokens so far, followed by those of the
-- remaining records, are the tokens at the end
abbrev pub invariant-loop-record : goal.invariant-loop-record
invariant-loop-record g l =
    let shown = g.T.ShownRecord in
    let layout = g.T.AttributeRecord.layout in
    (l.writer.before ≡ l.fn.writer.before) × (l.writer.tokens
    ++ flat_map (λ r. json_tokens (object_of (shown.record_members r)))
    (records_in layout l.remaining)
    ≡ l.fn.writer.tokens
    ++ flat_map (λ r. json_tokens (object_of (shown.record_members r)))
    (records_in layout l.value))

abbrev pub decreases-loop-record : goal.decreases-loop-record
decreases-loop-record g l = length l.remaining
