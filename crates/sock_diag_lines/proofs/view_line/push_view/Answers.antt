use Rattle.std.proofs.Common.{inl, inr, refl}
use Rattle.std.proofs.lemmas.Result.{on_ok_weaker}
use Rattle.sock_diag_replies.specs.ViewModel.{view_model}
use Rattle.sock_diag_lines.proofs.view_line.push_view.Goals as goal

pub returns-in-Ok : goal.returns-in-Ok
returns-in-Ok c = on_ok_weaker c.push_reply.result
    (λ e. (_, e, inl (view_model c.in-Ok.view, c.in-Ok.ensures.value, inl (tt, refl))))
    c.push_reply.ensures

pub returns-in-Err : goal.returns-in-Err
returns-in-Err c = on_ok_weaker c.push_refused.result
    (λ e. (_, e.1, inr (c.in-Err.error, c.in-Err.ensures.error, refl))) c.push_refused.ensures
