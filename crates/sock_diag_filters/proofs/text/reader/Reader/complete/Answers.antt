use Rattle.std.proofs.Common.{◌≡◌, ◌∙◌, None, rules}
use Rattle.sock_diag_filters.specs.Readers.{state_of}
use Rattle.sock_diag_filters.specs.Reading.{operator_of}
use Rattle.sock_diag_filters.proofs.ReadingSteps.{completed_if_none}
use Rattle.sock_diag_filters.proofs.text.reader.Reader.complete.Goals as goal

pub returns : goal.returns
returns c =
    let none : operator_of (state_of c.loop-part.self).pending ≡ None = search rules in
    completed_if_none (state_of c.loop-part.self) c.loop-part.invariant.place none
    ∙ c.loop-part.invariant.same
