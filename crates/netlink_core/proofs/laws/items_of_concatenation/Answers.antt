use Rattle.netlink_core.specs.Items.{IsItemOf}
use Rattle.netlink_core.proofs.Items.{items_of_concatenation}
use Rattle.netlink_core.proofs.laws.items_of_concatenation.Goals as goal

pub returns : goal.returns
returns g c = items_of_concatenation (IsItemOf g.I.HasCodec.codec)
