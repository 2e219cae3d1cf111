use Rattle.std.proofs.Common.{Ok, refl, ap, sym}
use Rattle.std.proofs.lemmas.Result.{err_from_is_err_and}
use Rattle.netlink_core.proofs.nla.DefaultNlaWire.read.Goals as goal

pub returns-in_err-from_buffer-clause-memory_needed :
    goal.returns-in_err-from_buffer-clause-memory_needed
returns-in_err-from_buffer-clause-memory_needed c =
    let p = err_from_is_err_and c.from_residual-in_err-from_buffer.result
    c.from_residual-in_err-from_buffer.ensures.1 in
    rw (p.1, p.2) (λ memory. (_, (_, c.in_ok-new_checked.ensures, refl), λ spare. spare))

pub returns-clause-value : goal.returns-clause-value
returns-clause-value c =
    (_, c.in_ok-new_checked.ensures, ap Ok (sym c.in_ok-from_buffer.ensures.equal))
