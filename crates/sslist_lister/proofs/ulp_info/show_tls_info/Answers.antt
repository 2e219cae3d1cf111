use Rattle.std.proofs.Common.{[], codes}
use Rattle.std.proofs.lemmas.Result.{on_ok_weaker}
use Rattle.sslist_lister.specs.UlpInfo.{tls_facts}
use Rattle.sslist_facts.proofs.FactItems.{shown_group}
use Rattle.sslist_lister.proofs.ulp_info.show_tls_info.Goals as goal

pub returns : goal.returns
returns g c =
    on_ok_weaker c.end.result
    (shown_group g.S.FactSink.content _ _ _ _ _ _ _ _ c.in_ok-begin.ensures
    c.in_ok-show_tls_parts.ensures
    (g.met.S.FactSink.items_of_group [] [] (codes "tls")
    (tls_facts c.args.bytes.now)))
    c.end.ensures
