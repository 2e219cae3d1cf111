use Rattle.std.proofs.Common.{◌∙◌, append-nil, append_assoc, sym}
use Rattle.std.proofs.lemmas.List.{drop_all, drop_more}
use Rattle.sslist_facts.proofs.facts.push_separated.Goals as goal

pub loop-number-preserved : goal.loop-number-preserved
loop-number-preserved c =
    rw c.in_ok-push_after.ensures (simp append_assoc
    (rw (drop_more _ _ 0 c.loop-number-test.true) at c.loop-number.invariant))

pub returns : goal.returns
returns c =
    sym (append-nil _) ∙ (rw (drop_all c.loop-number.number-index _ c.loop-number-test.false)
    at c.loop-number.invariant)
