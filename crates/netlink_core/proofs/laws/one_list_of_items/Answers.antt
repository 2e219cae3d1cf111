use Rattle.netlink_core.proofs.Items.{one_list}
use Rattle.netlink_core.proofs.laws.one_list_of_items.Goals as goal

pub returns : goal.returns
returns g c = one_list g.I.HasCodec.codec c.one_message_or_error.ensures
