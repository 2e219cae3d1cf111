use Rattle.std.proofs.Common.{append_assoc, sym}
use Rattle.sock_diag_lines.proofs.ViewLemmas.{left_at}
use Rattle.sock_diag_lines.proofs.answer_parts.push_numbers.Goals as goal

pub rest-preserved : goal.rest-preserved
rest-preserved c =
    let left = left_at _ c.rest.index c.in-Some-get.number (sym c.in-Some-get.ensures) in
    rw (c.in_ok-push_number-2.ensures, c.into-in-rest.ensures, c.in_ok-push-2.ensures.items)
    (simp append_assoc (rw left at c.rest.invariant))
