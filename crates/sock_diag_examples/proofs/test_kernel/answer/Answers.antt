use Rattle.std.proofs.Common.{refl}
use Rattle.std.proofs.lemmas.Result.{err_from_is_err_and}
use Rattle.sock_diag_examples.specs.TestKernel.{no_request, other_type}
use Rattle.sock_diag_examples.proofs.test_kernel.answer.Goals as goal

pub returns-then-header-ne-SOCK_DIAG_BY_FAMILY-clause-refused :
    goal.returns-then-header-ne-SOCK_DIAG_BY_FAMILY-clause-refused
returns-then-header-ne-SOCK_DIAG_BY_FAMILY-clause-refused c =
    other_type c.in_ok-header.header c.in_ok-header.ensures c.if-header-ne-SOCK_DIAG_BY_FAMILY.true
    refl

-- a request is parsed without allocating, so its error is not `Memory`
pub returns-in_err-_asked-clause-refused : goal.returns-in_err-_asked-clause-refused
returns-in_err-_asked-clause-refused c =
    let p = err_from_is_err_and c.from_residual-in_err-_asked.result
    c.from_residual-in_err-_asked.ensures.1 in
    rw (p.1, p.2) (no_request c.in_ok-header.header c.in_ok-header.ensures
    c.if-header-ne-SOCK_DIAG_BY_FAMILY.false
    (c.in_err-_asked.ensures.error (λ memory. cc (c.in_err-_asked.ensures.memory memory))))
