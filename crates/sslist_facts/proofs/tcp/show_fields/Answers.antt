use Rattle.sslist_facts.specs.Tcp.{field_facts, field_row_of, row_facts}
use Rattle.sslist_facts.proofs.FactItems.{items_of_mapped}
use Rattle.sslist_facts.proofs.tcp.show_fields.Goals as goal

pub returns : goal.returns
unfolding field_facts
returns g c =
    let laws = g.met.S.FactSink in
    rw (items_of_mapped g.S.FactSink.items laws.items_of_none laws.items_of_both
    (row_facts c.args.bytes.now) field_row_of c.args.rows.now)
    c.show_rows.ensures
