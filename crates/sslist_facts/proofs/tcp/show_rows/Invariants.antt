use Rattle.std.proofs.Common.{◌≡◌, ◌++◌, drop, flat_map}
use Rattle.sslist_facts.specs.Tcp.{field_row_of, row_facts}
use Rattle.sslist_facts.proofs.tcp.show_rows.Given as goal

-- the text before is unchanged, and the items so far, followed by those of the remaining rows, are
-- the items at the end
abbrev pub invariant-loop-offset : goal.invariant-loop-offset
invariant-loop-offset g l =
    let sink = g.S.FactSink in
    ((sink.content l.sink).text_before ≡ (sink.content l.fn.sink).text_before)
    × ((sink.content l.sink).shown
    ++ flat_map (λ row. sink.items (row_facts l.bytes (field_row_of row)))
    (drop l.offset-index l.rows)
    ≡ (sink.content l.fn.sink).shown
    ++ flat_map (λ row. sink.items (row_facts l.bytes (field_row_of row))) l.rows)
