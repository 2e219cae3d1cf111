use Rattle.std.proofs.Common.{inl, refl}
use Rattle.std.proofs.lemmas.Result.{on_ok_weaker}
use Rattle.sock_diag_lines.proofs.answers.push_message_text.Goals as goal

pub returns-in-Noop : goal.returns-in-Noop
returns-in-Noop c = on_ok_weaker c.push_message_fields.result
    (λ e. (_, e, inl (c.is_writable.ensures.0 c.if-not-is_writable.false, rw c.in-Noop.is refl)))
    c.push_message_fields.ensures

pub returns-in-Error : goal.returns-in-Error
returns-in-Error c = on_ok_weaker c.push_message_fields-in-Error.result
    (λ e. (_, e, inl (c.is_writable.ensures.0 c.if-not-is_writable.false, rw c.in-Error.is refl)))
    c.push_message_fields-in-Error.ensures

pub returns-in-Done : goal.returns-in-Done
returns-in-Done c = on_ok_weaker c.push_message_fields-in-Done.result
    (λ e. (_, e, inl (c.is_writable.ensures.0 c.if-not-is_writable.false, rw c.in-Done.is refl)))
    c.push_message_fields-in-Done.ensures

pub returns-in-Overrun : goal.returns-in-Overrun
returns-in-Overrun c = on_ok_weaker c.push_message_fields-in-Overrun.result
    (λ e. (_, e, inl (c.is_writable.ensures.0 c.if-not-is_writable.false, rw c.in-Overrun.is refl)))
    c.push_message_fields-in-Overrun.ensures

pub returns-in-InnerMessage : goal.returns-in-InnerMessage
returns-in-InnerMessage c = on_ok_weaker c.push_inner.result
    (λ e. (
      _,
      e,
      inl (c.is_writable.ensures.0 c.if-not-is_writable.false, rw c.in-InnerMessage.is refl),
    )) c.push_inner.ensures
