use Rattle.sslist_lister.proofs.report_outcome.Goals as goal

pub returns-in-Err : goal.returns-in-Err
returns-in-Err g c = rw c.in-Err.is c.report_failure.ensures
