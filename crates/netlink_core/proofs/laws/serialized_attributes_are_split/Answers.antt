use Rattle.netlink_core.proofs.Splitting.{attribute_bytes_split}
use Rattle.netlink_core.proofs.laws.serialized_attributes_are_split.Goals as goal

pub returns : goal.returns
returns c = attribute_bytes_split
