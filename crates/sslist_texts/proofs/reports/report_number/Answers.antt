use Rattle.sslist_texts.proofs.reports.report_number.Goals as goal

pub returns : goal.returns
returns g c = rw (c.as_bytes.ensures.value, c.format.ensures.text) at c.report.ensures
