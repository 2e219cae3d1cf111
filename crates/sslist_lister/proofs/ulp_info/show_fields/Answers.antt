use Rattle.sslist_lister.specs.UlpInfo.{ulp_row, ulp_row_of, ulp_rows}
use Rattle.sslist_facts.proofs.FactItems.{items_of_mapped}
use Rattle.sslist_lister.proofs.ulp_info.show_fields.Goals as goal

pub returns : goal.returns
unfolding ulp_rows
returns g c =
    let laws = g.met.S.FactSink in
    rw (items_of_mapped g.S.FactSink.items laws.items_of_none laws.items_of_both
    (ulp_row c.args.bytes.now) ulp_row_of c.args.rows.now)
    c.show_rows.ensures
