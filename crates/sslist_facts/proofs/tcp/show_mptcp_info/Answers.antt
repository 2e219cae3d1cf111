use Rattle.std.proofs.Common.{[], codes}
use Rattle.std.proofs.lemmas.Result.{on_ok_weaker}
use Rattle.sslist_facts.specs.Tcp.{field_facts, mptcp_facts}
use Rattle.sslist_facts.specs.declared.tcp.TheConstants.{MPTCP_ROWS}
use Rattle.sslist_facts.proofs.FactItems.{shown_group}
use Rattle.sslist_facts.proofs.tcp.show_mptcp_info.Goals as goal

pub returns : goal.returns
unfolding mptcp_facts
returns g c =
    on_ok_weaker c.end.result
    (shown_group g.S.FactSink.content _ _ _ _ _ _ _ _ c.in_ok-begin.ensures
    c.in_ok-show_fields.ensures
    (g.met.S.FactSink.items_of_group [] [] (codes "info")
    (field_facts c.args.bytes.now MPTCP_ROWS)))
    c.end.ensures
