use Rattle.sslist_facts.specs.Facts.{number_row_of}
use Rattle.sslist_facts.proofs.FactItems.{items_of_numbers}
use Rattle.sslist_facts.proofs.facts.show_numbers.Goals as goal

pub returns : goal.returns
returns g c =
    let laws = g.met.S.FactSink in
    rw (items_of_numbers g.S.FactSink.items laws.items_of_none laws.items_of_both
    number_row_of c.args.rows.now)
    c.show_each.ensures
