use Rattle.std.proofs.Common.{map}
use Rattle.std.proofs.lemmas.Result.{on_ok_weaker}
use Rattle.sslist_facts.specs.Facts.{number_row_of, numbers}
use Rattle.sslist_facts.proofs.FactItems.{shown_group}
use Rattle.sslist_facts.proofs.facts.show_group.Goals as goal

pub returns : goal.returns
returns g c =
    on_ok_weaker c.end.result
    (shown_group g.S.FactSink.content _ _ _ _ _ _ _ _ c.in_ok-begin.ensures
    c.in_ok-show_numbers.ensures
    (g.met.S.FactSink.items_of_group c.args.opening.now c.args.closing.now c.args.member.now
    (numbers (map number_row_of c.args.rows.now))))
    c.end.ensures
