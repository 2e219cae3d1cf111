use Rattle.std.proofs.Common.{inl, refl}
use Rattle.sock_diag_replies.specs.ViewModel.{view_model}
use Rattle.sockdiag_c.proofs.check.sockdiag_check_inet_reply.Goals as goal

pub returns-in-Ok : goal.returns-in-Ok
returns-in-Ok c =
    let found = c.inet_header.ensures in
    let header = c.header.ensures in
    inl (refl, (view_model c.in-Ok.view, c.in-Ok.ensures.value, rw (found, header) refl))
