use Rattle.std.proofs.Common.{◌≡◌, ◌∙◌, ◌++◌, ◌∷◌, [], None, ap, arith, inl, inr, sym}
use Rattle.std.specs.Result.{result_err}
use Rattle.netlink_core.specs.Walk.{buffered_attribute}
use Rattle.sockdiag_c.specs.Family.{value_error}
use Rattle.sockdiag_c.proofs.ErrorOffsets.{left_after, one_more_split}
use Rattle.sockdiag_c.proofs.Rows.{first_unchanged}
use Rattle.sockdiag_c.proofs.error_offsets.left_at_error.Goals as goal

pub loop-item-preserved-in-Ok-read : goal.loop-item-preserved-in-Ok-read
loop-item-preserved-in-Ok-read g c =
    let family = g.T.ReplyDetails.family in
    let inv = c.loop-item.invariant in
    let a = buffered_attribute c.in-Ok.nla in
    let start = rw c.in-Ok.is at c.in-Some.ensures.steps in
    let fine : value_error family a ≡ None = ap result_err (sym c.in-Ok-read.ensures) in
    let fewer = left_after _ _ a start in
    record {
      so_far = inv.so_far ++ a ∷ [];
      split = one_more_split _ _ _ inv.so_far a inv.split start;
      accepted = sym (first_unchanged (value_error family) inv.so_far a fine) ∙ inv.accepted;
      size = grind (
        arith,
        fewer,
        c.saturating_sub-left.ensures,
        c.padded.ensures,
        c.from.ensures,
        c.length.ensures,
        inv.size,
      );
      within = grind (arith, c.saturating_sub-left.ensures, inv.within);
    }

pub returns-in-Err-read-clause-first : goal.returns-in-Err-read-clause-first
returns-in-Err-read-clause-first g c =
    let inv = c.loop-item.invariant in
    let start = rw c.in-Ok.is at c.in-Some.ensures.steps in
    record {
      before = inv.so_far;
      rest = _;
      split = inv.split;
      accepted = inv.accepted;
      error = inr (inl (_, _, _, start, ap result_err (sym c.in-Err-read.ensures)));
      size = inv.size;
    }
