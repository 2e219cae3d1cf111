use Rattle.netlink_core.proofs.Items.{items_of}
use Rattle.netlink_core.proofs.laws.datagram_has_items.Goals as goal

pub returns : goal.returns
returns g c = items_of g.I.HasCodec.codec g.met.I.HasCodec.laws.is_total
