use Rattle.std.proofs.Common.{[], codes}
use Rattle.std.proofs.lemmas.Result.{on_ok_weaker}
use Rattle.sock_diag_attributes.specs.NameModel.{name_view_model}
use Rattle.sslist_facts.proofs.FactItems.{shown_group}
use Rattle.sslist_lister.specs.AttributeFacts.{name_bytes_facts, name_facts}
use Rattle.sslist_lister.proofs.attributes.show_name.Goals as goal

pub returns : goal.returns
unfolding name_facts
returns g c =
    on_ok_weaker c.end.result
    (shown_group g.S.FactSink.content _ _ _ _ _ _ _ _ c.in_ok-begin.ensures
    c.in_ok-show_name_bytes.ensures
    (g.met.S.FactSink.items_of_group [] [] (codes "name")
    (name_bytes_facts (name_view_model c.args.name))))
    c.end.ensures
