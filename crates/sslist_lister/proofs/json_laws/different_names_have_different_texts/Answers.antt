use Rattle.sslist_lister.proofs.JsonNames.{names_with_same_text}
use Rattle.sslist_lister.proofs.json_laws.different_names_have_different_texts.Goals as goal

pub returns : goal.returns
returns c = names_with_same_text _ _ c.prove_in_range.ensures c.prove_in_range-2.ensures
