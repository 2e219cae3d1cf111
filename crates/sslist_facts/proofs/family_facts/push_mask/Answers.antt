use Rattle.std.proofs.Common.{◌∙◌, append-nil, append_assoc, arith, sym}
use Rattle.std.proofs.lemmas.List.{drop_all, drop_more}
use Rattle.sslist_facts.proofs.family_facts.push_mask.Goals as goal

pub loop-byte-preserved : goal.loop-byte-preserved
loop-byte-preserved c = (
  omega (arith, c.loop-byte.invariant.0),
  rw (c.in_ok-push_groups.ensures, append_assoc)
      (rw (drop_more _ _ 0 c.loop-byte-test.true) at c.loop-byte.invariant.1),
)

pub returns : goal.returns
returns c =
    sym (append-nil _) ∙ (rw (drop_all c.loop-byte.byte-index _ c.loop-byte-test.false)
    at c.loop-byte.invariant.1)
