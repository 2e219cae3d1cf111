use Rattle.attribute_lists.proofs.Finding.{decoded_values_are_unique}
use Rattle.attribute_lists.proofs.laws.found_values_are_the_attributes.Goals as goal

pub returns-clause-decoded : goal.returns-clause-decoded
returns-clause-decoded g c = decoded_values_are_unique _

pub returns-clause-undecoded : goal.returns-clause-undecoded
returns-clause-undecoded g c = decoded_values_are_unique _
