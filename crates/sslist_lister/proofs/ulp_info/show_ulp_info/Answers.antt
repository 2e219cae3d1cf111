use Rattle.std.proofs.Common.{[], codes}
use Rattle.std.proofs.lemmas.Result.{on_ok_weaker}
use Rattle.sslist_lister.specs.UlpInfo.{ulp_parts}
use Rattle.sslist_facts.proofs.FactItems.{shown_group}
use Rattle.sslist_lister.proofs.ulp_info.show_ulp_info.Goals as goal

pub returns : goal.returns
returns g c =
    on_ok_weaker c.end.result
    (shown_group g.S.FactSink.content _ _ _ _ _ _ _ _ c.in_ok-begin.ensures
    c.in_ok-show_ulp_parts.ensures
    (g.met.S.FactSink.items_of_group [] [] (codes "ulp_info")
    (ulp_parts c.args.name.now c.args.value.now)))
    c.end.ensures
