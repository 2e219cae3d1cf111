use Rattle.sslist_texts.proofs.Reporting.{reports_then, reports_three}
use Rattle.sslist_texts.proofs.reports.report_text.Goals as goal

pub returns-in-Plain : goal.returns-in-Plain
returns-in-Plain g c = rw c.in-Plain.is (rw c.as_bytes.ensures.value at c.report.ensures)

pub returns-in-Decimal : goal.returns-in-Decimal
returns-in-Decimal g c =
    rw c.in-Decimal.is (reports_three _ _ _ _ _ _ _ _ _ _ _ _ _ _ _
    (rw c.as_bytes-in-Decimal.ensures.value at c.report-in-Decimal.ensures)
    c.report_number.ensures
    (rw c.as_bytes-in-Decimal-2.ensures.value at c.report-in-Decimal-2.ensures))

pub returns-in-Hex : goal.returns-in-Hex
returns-in-Hex g c =
    rw c.in-Hex.is (reports_then _ _ _ _ _ _ _ _ _ _ _
    (rw c.as_bytes-in-Hex.ensures.value at c.report-in-Hex.ensures) c.report_hex.ensures)
