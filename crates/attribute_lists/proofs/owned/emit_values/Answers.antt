use Rattle.attribute_lists.proofs.EncodedAttributes.{decoded_values_in_range}
use Rattle.attribute_lists.proofs.owned.emit_values.Goals as goal

pub returns-clause-in_range : goal.returns-clause-in_range
returns-clause-in_range g c =
    decoded_values_in_range g.T.FamilyNla.attribute_set g.T.Nla.in_range g.T.FamilyNla.model
    g.met.T.FamilyNla.in_range_by_model c.args.nlas.now c.emit_nlas.ensures.in_range
