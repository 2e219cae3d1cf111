use Rattle.sslist_texts.proofs.Reporting.{reports_same, reports_then, reports_three}
use Rattle.sslist_texts.proofs.reports.report_line.Goals as goal

pub returns : goal.returns
returns g c =
    let failure = reports_same _ _ _ _ _ _ _ _ c.text.ensures (reports_then _ _ _ _ _ _ _ _ _ _ _
    c.report_subject.ensures c.report_text.ensures) in
    reports_three _ _ _ _ _ _ _ _ _ _ _ _ _ _ _
    (rw c.as_bytes.ensures.value at c.report.ensures) failure c.report-2.ensures
