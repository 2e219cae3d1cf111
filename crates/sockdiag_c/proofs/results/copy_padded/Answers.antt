use Rattle.std.proofs.Common.{◌∙◌, arith, length}
use Rattle.sockdiag_c.proofs.Values.{padded_or_truncated_is}
use Rattle.sockdiag_c.proofs.results.copy_padded.Goals as goal

pub returns : goal.returns
returns c =
    let front = c.copy_from_slice.ensures.after in
    let zeros = c.fill.ensures.after (λ y e. e) in
    rw (front, zeros) (padded_or_truncated_is (length c.args.target.now) _ c.min-len.result _
    c.min-len.ensures
    (c.split_at_mut-copied.ensures.back_len ∙ omega arith))
