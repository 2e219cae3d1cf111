use Rattle.std.proofs.Common.{refl, arith}
use Rattle.sock_diag_replies.specs.ViewModel.{view_model}
use Rattle.sock_diag_examples.proofs.readme.comparing.rewrite.Goals as goal
use Rattle.sock_diag_examples.proofs.readme.comparing.rewrite.Goals.{
  then-not-is_writable-via-then-not-is_writable,
}
use Rattle.sock_diag_examples.proofs.readme.comparing.rewrite.Goals.{
  then-not-is_writable-via-else-not-is_writable+then-buffer_len-buffer,
}

pub returns-then-not-is_writable-clause-value : goal.returns-then-not-is_writable-clause-value
returns-then-not-is_writable-clause-value c = (
  view_model c.in_ok-reply.reply,
  c.in_ok-reply.ensures.value,
  (
    refl,
    λ fits. elim c.then-not-is_writable.branch [
      | then-not-is_writable-via-then-not-is_writable w ↦
          absurd (cc (w.if-not-is_writable.true, c.is_writable.ensures.1 fits))
      | then-not-is_writable-via-else-not-is_writable+then-buffer_len-buffer w ↦
          omega (arith, w.buffer_len.ensures, w.if-buffer_len-buffer.true)
    ],
  ),
)

pub returns-clause-value : goal.returns-clause-value
returns-clause-value c = (
  view_model c.in_ok-reply.reply,
  c.in_ok-reply.ensures.value,
  (
    rw c.buffer_len-2.ensures c.emit.ensures.written,
    c.is_writable.ensures.0 c.if-not-is_writable.false,
    c.buffer_len-2.ensures,
  ),
)
