use Rattle.netlink_core.proofs.Items.{one_result_of_message}
use Rattle.netlink_core.proofs.laws.one_message_or_error.Goals as goal

pub returns : goal.returns
returns g c = one_result_of_message g.I.HasCodec.codec g.met.I.HasCodec.laws
