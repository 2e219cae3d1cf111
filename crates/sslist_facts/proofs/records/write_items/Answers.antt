use Rattle.std.proofs.Common.{◌≡◌, ◌≤◌, ◌<◌, ◌++◌, ◌∙◌, append-nil, ap, flat_map, length, rules}
use Rattle.std.proofs.Common.{sym}
use Rattle.json.specs.Tree.{json_tokens}
use Rattle.sslist_texts.specs.JsonData.{object_of}
use Rattle.sock_diag_extras.specs.RecordTable.{parse_by_table}
use Rattle.sslist_facts.proofs.RecordLists.{record_mapped, records_end}
use Rattle.sslist_facts.proofs.records.write_items.Goals as goal

pub loop-record-preserved : goal.loop-record-preserved
loop-record-preserved g c =
    let shown = g.T.ShownRecord in
    let layout = g.T.AttributeRecord.layout in
    let remaining = c.loop-record.remaining.now in
    let long : layout.size ≤ length remaining = search rules in
    let is : c.in-Some.record ≡ parse_by_table layout remaining = search rules in (
      c.in_ok-write_item.ensures.prefix ∙ c.loop-record.invariant.0,
      record_mapped layout _
          (λ r. json_tokens (object_of (shown.record_members r))) _ _ _ remaining
          c.in-Some.record c.size.ensures g.met.T.ShownRecord.has_bytes long is
          c.in_ok-write_item.ensures.tokens c.loop-record.invariant.1,
    )

pub returns-clause-tokens : goal.returns-clause-tokens
returns-clause-tokens g c =
    let shown = g.T.ShownRecord in
    let layout = g.T.AttributeRecord.layout in
    let remaining = c.loop-record.remaining.now in
    let short : length remaining < layout.size = search rules in
    sym (append-nil c.loop-record.writer.tokens)
    ∙ ap (λ rs. c.loop-record.writer.tokens
    ++ flat_map (λ r. json_tokens (object_of (shown.record_members r))) rs)
    (sym (records_end layout remaining short))
    ∙ c.loop-record.invariant.1
