use Rattle.sslist_texts.proofs.Reporting.{reports_three}
use Rattle.sslist_texts.proofs.reports.report_packet.Goals as goal

pub returns : goal.returns
returns g c = reports_three _ _ _ _ _ _ _ _ _ _ _ _ _ _ _ c.report.ensures
    c.report_number.ensures c.report-2.ensures
