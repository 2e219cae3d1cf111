use Rattle.std.proofs.Common.{arith}
use Rattle.sslist_texts.proofs.JsonWriting.{json_rules}
use Rattle.sslist_facts.specs.SctpAddresses.{stored_address_members}
use Rattle.sslist_facts.proofs.sctp_addresses.write_address_members.Goals as goal

pub returns-clause-members : goal.returns-clause-members
unfolding stored_address_members
returns-clause-members c = grind (arith, json_rules)
