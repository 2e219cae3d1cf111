use Rattle.netlink_core.proofs.AttributeContent.{value_of_own_kind, no_value_of_other_kind}
use Rattle.netlink_core.proofs.AttributeContent.{no_value_of_unknown_kind}
use Rattle.netlink_core.proofs.laws.value_is_found_under_its_kind.Goals as goal

pub returns-clause-own : goal.returns-clause-own
returns-clause-own g c = value_of_own_kind _

pub returns-clause-other : goal.returns-clause-other
returns-clause-other g c = no_value_of_other_kind _

pub returns-clause-none : goal.returns-clause-none
returns-clause-none g c = no_value_of_unknown_kind _
