use Rattle.std.proofs.Common.{arith}
use Rattle.sslist_texts.proofs.JsonWriting.{json_rules}
use Rattle.sslist_facts.specs.Md5Keys.{md5_key_members}
use Rattle.sslist_facts.proofs.md5_keys.write_key_members.Goals as goal

pub returns-clause-members : goal.returns-clause-members
unfolding md5_key_members
returns-clause-members c = grind (arith, json_rules)
