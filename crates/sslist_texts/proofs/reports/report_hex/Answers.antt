use Rattle.sslist_texts.proofs.reports.report_hex.Goals as goal

pub returns : goal.returns
returns g c = rw c.hex_digits.ensures at c.report.ensures
