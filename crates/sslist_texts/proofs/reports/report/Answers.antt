use Rattle.sslist_texts.proofs.Reporting.{reports_none, reports_part}
use Rattle.sslist_texts.proofs.reports.report.Goals as goal

pub returns-in-Err : goal.returns-in-Err
returns-in-Err g c =
    let (failed, sent, rest, split, appended) = c.in-Err.ensures.stopped in
    rw c.if-is_open.true (reports_part _ _ _ _ sent rest split appended (_, failed))

pub returns-else-is_open : goal.returns-else-is_open
returns-else-is_open g c = rw c.if-is_open.false (reports_none _ _ _)
