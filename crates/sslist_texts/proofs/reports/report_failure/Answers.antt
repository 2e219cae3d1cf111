use Rattle.std.proofs.Common.{◌∙◌, sym}
use Rattle.sslist_texts.proofs.Reporting.{closing_other}
use Rattle.sslist_texts.proofs.reports.report_failure.Goals as goal

pub returns-then-not-is_closed_pipe : goal.returns-then-not-is_closed_pipe
returns-then-not-is_closed_pipe g c =
    let test = c.if-not-is_closed_pipe.true in
    rw (closing_other c.args.front.now c.args.failure.now (λ same.
    absurd (let clash = sym (c.is_closed_pipe.ensures.1 same) ∙ test in cc)))
    c.report_line.ensures
