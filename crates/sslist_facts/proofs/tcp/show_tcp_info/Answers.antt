use Rattle.std.proofs.Common.{[], codes}
use Rattle.std.proofs.lemmas.Result.{on_ok_weaker}
use Rattle.sslist_facts.specs.Tcp.{tcp_field_facts, tcp_facts}
use Rattle.sslist_facts.proofs.FactItems.{shown_group}
use Rattle.sslist_facts.proofs.tcp.show_tcp_info.Goals as goal

pub returns : goal.returns
unfolding tcp_facts
returns g c =
    on_ok_weaker c.end.result
    (shown_group g.S.FactSink.content _ _ _ _ _ _ _ _ c.in_ok-begin.ensures
    c.in_ok-show_tcp_fields.ensures
    (g.met.S.FactSink.items_of_group [] [] (codes "info") (tcp_field_facts c.args.bytes.now)))
    c.end.ensures
