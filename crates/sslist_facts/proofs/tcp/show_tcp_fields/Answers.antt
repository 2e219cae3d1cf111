use Rattle.std.proofs.lemmas.Result.{on_ok_weaker}
use Rattle.sslist_facts.specs.Tcp.{tcp_field_facts}
use Rattle.sslist_facts.proofs.FactItems.{shown_three}
use Rattle.sslist_facts.proofs.tcp.show_tcp_fields.Goals as goal

pub returns : goal.returns
unfolding tcp_field_facts
returns g c =
    let sink = g.S.FactSink in
    on_ok_weaker c.show_fields-3.result
    (shown_three sink.content g.met.S.FactSink.items_of_both _ _ _ _ _ _ _
    c.in_ok-show_fields.ensures c.in_ok-show_fields-2.ensures)
    c.show_fields-3.ensures
