use Rattle.std.proofs.Common.{◌≡◌, ℕ, Bool, Option, List, Result, Ok, Err}
use Rattle.std.specs.Prelude.{IfErr}
use Rattle.program_streams.specs.Streams.{WritesAllOrFails}
use Rattle.sock_diag_lines.specs.FailureLine.{failure_line}
use Rattle.program_streams.specs.declared.lines.RunError.{RunError}
use Rattle.program_streams.specs.declared.lines.RunError.TheVariants.{Read, Write}
use Rattle.sock_diag_lines.proofs.run_to_status.Goals as goal

-- the line names the failure, and the failure has its cause
reported_with_cause : (held held' : Option (List ℕ)) (unreported unread unwritten : Type 0)
    (outcome : Result Bool RunError)
    → IfErr outcome (λ e. WritesAllOrFails held held' unreported (failure_line e))
    → IfErr outcome (λ e. e ≡ Read → unread) → IfErr outcome (λ e. e ≡ Write → unwritten)
    → IfErr outcome (λ e. WritesAllOrFails held held' unreported (failure_line e)
    × (e ≡ Read → unread) × (e ≡ Write → unwritten))
reported_with_cause c d r u w (Ok good) line read write = line
reported_with_cause c d r u w (Err e) line read write = (line, read, write)

pub returns-clause-answered : goal.returns-clause-answered
returns-clause-answered g c = (
  c.answer_all-outcome.result,
  c.exit_code.ensures,
  c.answer_all-outcome.ensures.answered,
  reported_with_cause _ _ _ _ _ c.answer_all-outcome.result
      c.report.ensures.reported c.answer_all-outcome.ensures.read_cause
      c.answer_all-outcome.ensures.write_cause,
)
