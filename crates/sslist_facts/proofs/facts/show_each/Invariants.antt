use Rattle.std.proofs.Common.{◌≡◌, ◌++◌, drop, flat_map}
use Rattle.sslist_facts.specs.Facts.{number_row_facts, number_row_of}
use Rattle.sslist_facts.proofs.facts.show_each.Given as goal

-- the text before is unchanged, and the items so far, followed by those of the remaining rows, are
-- the items at the end
abbrev pub invariant-loop-format : goal.invariant-loop-format
invariant-loop-format g l =
    let sink = g.S.FactSink in
    ((sink.content l.sink).text_before ≡ (sink.content l.fn.sink).text_before)
    × ((sink.content l.sink).shown
    ++ flat_map (λ row. sink.items (number_row_facts (number_row_of row)))
    (drop l.format-index l.rows)
    ≡ (sink.content l.fn.sink).shown
    ++ flat_map (λ row. sink.items (number_row_facts (number_row_of row))) l.rows)
