use Rattle.std.proofs.Common.{◌≡◌, ◌≤◌, ◌<◌, ◌++◌, ◌∙◌, append-nil, ap, length, rules, sym}
use Rattle.sslist_facts.specs.Facts.{separated_records}
use Rattle.sock_diag_extras.specs.RecordTable.{parse_by_table}
use Rattle.sslist_facts.proofs.RecordLists.{record_pushed, records_end}
use Rattle.sslist_facts.proofs.records.push_records.Goals as goal

pub loop-record-preserved : goal.loop-record-preserved
loop-record-preserved g c =
    let shown = g.T.ShownRecord in
    let layout = g.T.AttributeRecord.layout in
    let remaining = c.loop-record.remaining.now in
    let long : layout.size ≤ length remaining = search rules in
    let is : c.in-Some.record ≡ parse_by_table layout remaining = search rules in
    record_pushed layout _ shown.record_text _ _ _ _ remaining c.loop-record.separator.now
    c.args.later.now c.in-Some.record c.size.ensures g.met.T.ShownRecord.has_bytes long is
    c.in_ok-extend_from_slice.ensures.items c.in_ok-push_text.ensures c.loop-record.invariant

pub returns : goal.returns
returns g c =
    let shown = g.T.ShownRecord in
    let layout = g.T.AttributeRecord.layout in
    let remaining = c.loop-record.remaining.now in
    let short : length remaining < layout.size = search rules in
    sym (append-nil c.loop-record.text.items)
    ∙ ap (λ rs. c.loop-record.text.items
    ++ separated_records shown.record_text c.loop-record.separator.now c.args.later.now rs)
    (sym (records_end layout remaining short))
    ∙ c.loop-record.invariant
