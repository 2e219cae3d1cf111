use Rattle.std.proofs.Common.{true, ◌++◌}
use Rattle.sslist_texts.proofs.Reporting.{reports_from_start, reports_then}
use Rattle.sslist_texts.specs.Reports.{ReportsText}
use Rattle.sslist_texts.proofs.Reporting.{ReportsMore}
use Rattle.program_streams.specs.declared.streams.WriteError.{WriteError}
use Rattle.sslist_lister.proofs.Failing.{run_outcome}
use Rattle.sslist_lister.specs.Run.{closing_text}
use Rattle.sslist_lister.proofs.run_to_status.Goals as goal

pub returns : goal.returns
returns g c =
    let outcome = c.run-outcome.result in
    let start = g.E.Sink.held c.args.errors.now in
    let before = g.E.Sink.held c.run-outcome.new.errors in
    let end = g.E.Sink.held c.report_outcome.new.errors in
    let none : Type 0 = (e : WriteError) × g.E.Sink.failed c.args.errors.now e in
    let some : Type 0 = (e : WriteError) × g.E.Sink.failed c.run-outcome.new.errors e in
    let last : Type 0 = (e : WriteError) × g.E.Sink.failed c.report_outcome.new.errors e in
    let opened = c.run-outcome.new.is_open in
    let is_open = c.report_outcome.new.is_open in
    let closing = closing_text c.args.front.now outcome in (
      outcome,
      is_open,
      c.exit_code.ensures.success,
      c.exit_code.ensures.failure,
      run_outcome _ _ _ _ _ _ _ (ReportsMore start none true before some opened)
          (λ d. ReportsText start end last (d ++ closing) is_open) _ outcome
          (λ d first. reports_from_start start end none last is_open (d ++ closing)
          (reports_then start before end none some last true opened is_open d closing first
          c.report_outcome.ensures))
          c.run-outcome.ensures.ended,
    )
