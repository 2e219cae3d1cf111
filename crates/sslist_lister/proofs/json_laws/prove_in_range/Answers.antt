use Rattle.sslist_lister.proofs.json_laws.prove_in_range.Goals as goal

pub returns-in-Pathname : goal.returns-in-Pathname
returns-in-Pathname c = rw c.in-Pathname.is c.prove_bytes_in_range.ensures

pub returns-in-Abstract : goal.returns-in-Abstract
returns-in-Abstract c = rw c.in-Abstract.is c.prove_bytes_in_range-in-Abstract.ensures
