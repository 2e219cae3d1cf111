use Rattle.std.proofs.Common.{arith}
use Rattle.sslist_texts.proofs.JsonWriting.{json_rules}
use Rattle.sslist_facts.specs.Memberships.{membership_members}
use Rattle.sslist_facts.proofs.memberships.write_membership.Goals as goal

pub returns-clause-members : goal.returns-clause-members
unfolding membership_members
returns-clause-members c = grind (arith, json_rules)
