use Rattle.std.proofs.Common.{arith, inl}
use Rattle.sock_diag_replies.specs.ViewModel.{view_model}
use Rattle.sockdiag_c.proofs.EquivalentReplies.{written_is_canonical}
use Rattle.sockdiag_c.proofs.rewriting.rewrite.Goals as goal

pub returns-in-Ok-clause-rewrites : goal.returns-in-Ok-clause-rewrites
returns-in-Ok-clause-rewrites g c =
    inl (view_model c.in-Ok.view, c.in-Ok.ensures.value, c.write_value.ensures)

pub returns-in-Ok-clause-canonical : goal.returns-in-Ok-clause-canonical
returns-in-Ok-clause-canonical g c =
    written_is_canonical g.H.ReplyHeader.reply g.met.H.ReplyHeader.keeps c.args.payload.now
    c.args.buffer.now _ _ _ _
    (λ i. omega (arith, c.type_inv.payload i)) c.in-Ok.ensures.value c.write_value.ensures
