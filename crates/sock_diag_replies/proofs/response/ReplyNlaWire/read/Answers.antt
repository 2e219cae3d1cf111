use Rattle.std.proofs.Common.{ap, map, arith}
use Rattle.std.proofs.lemmas.Result.{err_from_is_err_and}
use Rattle.sock_diag_replies.proofs.Owning.{empty_value, owned_error, owned_memory_needed}
use Rattle.sock_diag_replies.proofs.Owning.{owned_value}
use Rattle.sock_diag_replies.proofs.response.ReplyNlaWire.read.Goals as goal
use Rattle.sock_diag_replies.proofs.response.ReplyNlaWire.read.Goals.{in-None}
use Rattle.sock_diag_replies.proofs.response.ReplyNlaWire.read.Goals.{in_default+else-is_err}

pub returns-in_err-view-clause-error : goal.returns-in_err-view-clause-error
returns-in_err-view-clause-error g c =
    owned_error g.H.ReplyHeader.reply g.H.Nla.FamilyNla.attribute_set
    g.met.H.ReplyOwned.same_errors _ _ c.in_err-view.ensures.error c.from_residual.result
    c.from_residual.ensures.1

pub returns-then-is_err-clause-memory_needed : goal.returns-then-is_err-clause-memory_needed
returns-then-is_err-clause-memory_needed g c = λ memory.
    owned_memory_needed g.H.Nla.FamilyNla.attribute_set c.in_ok-view.view
    g.met.H.ReplyOwned.both_accept _
    c.in_ok-view.ensures.kept (λ i. omega (arith, c.type_inv.bytes i)) c.own_into.result _
    c.if-is_err.true c.is_err.ensures.value
    (c.own_into.ensures.needs_no_memory c.new-nlas-in_default.ensures.capacity)

pub returns-clause-value : goal.returns-clause-value
returns-clause-value g c =
    let F = g.H.Nla.FamilyNla.attribute_set in
    let view = c.in_ok-view.view in
    let kept = c.in_ok-view.ensures.kept in
    let both_accept = g.met.H.ReplyOwned.both_accept in
    elim c.match-LARGE_KIND.branch [
      | in-None w ↦ rw w.nlas-is (empty_value F view both_accept _ kept
          (λ i. omega (arith, c.type_inv.bytes i)) _ _ c.header.ensures
          (ap (map g.H.Nla.FamilyNla.model) w.new-nlas.ensures.items)
          (w.is_empty.ensures w.if-is_empty.true))
      | in_default+else-is_err w ↦ rw w.nlas-is (owned_value F view both_accept _ kept
          (λ i. omega (arith, c.type_inv.bytes i)) w.own_into.result _
          w.if-is_err.false w.is_err.ensures.value _ _ c.header.ensures
          w.own_into.ensures.equal)
    ]

pub returns-in_err-view-clause-in_range : goal.returns-in_err-view-clause-in_range
returns-in_err-view-clause-in_range g c = λ i. omega (arith, c.type_inv.bytes i)

pub returns-in_err-view-clause-memory_needed : goal.returns-in_err-view-clause-memory_needed
returns-in_err-view-clause-memory_needed g c =
    let p = err_from_is_err_and c.from_residual.result c.from_residual.ensures.1 in
    rw (p.1, p.2) (λ memory. absurd (c.in_err-view.ensures.not_memory memory))

pub returns-then-is_err-clause-in_range : goal.returns-then-is_err-clause-in_range
returns-then-is_err-clause-in_range g c = λ i. omega (arith, c.type_inv.bytes i)

pub returns-then-is_err-clause-error : goal.returns-then-is_err-clause-error
returns-then-is_err-clause-error g c = λ named. absurd (named c.memory_error_after_dropping.ensures)

pub returns-clause-in_range : goal.returns-clause-in_range
returns-clause-in_range g c = λ i. omega (arith, c.type_inv.bytes i)
