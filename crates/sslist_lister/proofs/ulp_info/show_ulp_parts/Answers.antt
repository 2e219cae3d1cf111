use Rattle.std.proofs.lemmas.Result.{on_ok_weaker}
use Rattle.sslist_facts.proofs.FactItems.{shown_three}
use Rattle.sslist_lister.proofs.ulp_info.show_ulp_parts.Goals as goal

pub returns : goal.returns
returns g c =
    let sink = g.S.FactSink in
    on_ok_weaker c.show_subflow.result
    (shown_three sink.content g.met.S.FactSink.items_of_both _ _ _ _ _ _ _
    c.in_ok-name.ensures c.in_ok-show_tls.ensures)
    c.show_subflow.ensures
