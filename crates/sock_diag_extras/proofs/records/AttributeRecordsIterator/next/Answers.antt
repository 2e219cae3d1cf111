use Rattle.std.proofs.Common.{◌∙◌, ℕ, drop, ap}
use Rattle.std.proofs.lemmas.List.{take_rest}
use Rattle.sock_diag_extras.proofs.records.AttributeRecordsIterator.next.Goals as goal

pub returns-clause-steps : goal.returns-clause-steps
returns-clause-steps g c =
    let bytes = c.args.self.now.bytes.now in
    let read = c.in_ok-value.ensures.value in
    (read.0, read.1, take_rest bytes _ ∙ ap (λ (n : ℕ). drop n bytes) c.size.ensures)
