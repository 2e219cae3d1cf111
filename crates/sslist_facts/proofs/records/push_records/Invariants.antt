use Rattle.std.proofs.Common.{◌≡◌, ◌++◌, length}
use Rattle.sslist_facts.specs.Facts.{separated_records}
use Rattle.sslist_facts.specs.RecordFacts.{records_in}
use Rattle.sslist_facts.proofs.records.push_records.Given as goal

-- the text so far, followed by the remaining records, is the text at the end
abbrev pub invariant-loop-record : goal.invariant-loop-record
invariant-loop-record g l =
    let shown = g.T.ShownRecord in
    let layout = g.T.AttributeRecord.layout in
    l.text.items ++ separated_records shown.record_text l.separator l.later
    (records_in layout l.remaining)
    ≡ l.fn.text.items ++ separated_records shown.record_text l.before l.later
    (records_in layout l.value)

abbrev pub decreases-loop-record : goal.decreases-loop-record
decreases-loop-record g l = length l.remaining
