use Rattle.std.proofs.lemmas.Result.{err_from_is_err_and}
use Rattle.sock_diag_examples.proofs.Counted.{count_ends, count_ends_at_error}
use Rattle.sock_diag_examples.proofs.framing.count_attributes.Goals as goal

pub returns-in_err-_attribute-clause-error : goal.returns-in_err-_attribute-clause-error
returns-in_err-_attribute-clause-error c =
    let given = err_from_is_err_and c.from_residual.result c.from_residual.ensures.1 in
    let stop = rw c.in_err-_attribute.was at c.in-Some.ensures.steps in
    rw (given.1, given.2) (count_ends_at_error _ _ _ _ c.loop-item.invariant.counted stop.0 stop.1)

pub returns-clause-count : goal.returns-clause-count
returns-clause-count c = count_ends _ _ _ c.loop-item.invariant.counted c.in-None.ensures.steps.0
