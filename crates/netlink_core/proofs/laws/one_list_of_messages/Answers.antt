use Rattle.netlink_core.proofs.Datagrams.{one_split_into_messages}
use Rattle.netlink_core.proofs.laws.one_list_of_messages.Goals as goal

pub returns : goal.returns
returns c = one_split_into_messages
