use Rattle.std.proofs.lemmas.Result.{on_ok_weaker}
use Rattle.sslist_lister.specs.UlpInfo.{tls_facts}
use Rattle.sslist_facts.proofs.FactItems.{shown_three}
use Rattle.sslist_lister.proofs.ulp_info.show_tls_parts.Goals as goal

pub returns : goal.returns
unfolding tls_facts
returns g c =
    let sink = g.S.FactSink in
    on_ok_weaker c.show_presence-2.result
    (shown_three sink.content g.met.S.FactSink.items_of_both _ _ _ _ _ _ _
    c.in_ok-show_fields.ensures c.in_ok-show_presence.ensures)
    c.show_presence-2.ensures
