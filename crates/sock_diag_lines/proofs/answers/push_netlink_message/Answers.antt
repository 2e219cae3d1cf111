use Rattle.std.proofs.Common.{inl, inr, refl}
use Rattle.std.proofs.lemmas.Result.{on_ok_weaker}
use Rattle.sock_diag_lines.proofs.answers.push_netlink_message.Goals as goal

pub returns-in-Ok : goal.returns-in-Ok
returns-in-Ok c =
    on_ok_weaker c.push_message_text.result
    (λ a. (a.0, a.1, inl (_, c.in-Ok.ensures.value, a.2))) c.push_message_text.ensures

pub returns-in-Err : goal.returns-in-Err
returns-in-Err c =
    on_ok_weaker c.push_refused.result
    (λ e. (_, e.1, inr (c.in-Err.error, c.in-Err.ensures.error, refl)))
    c.push_refused.ensures
