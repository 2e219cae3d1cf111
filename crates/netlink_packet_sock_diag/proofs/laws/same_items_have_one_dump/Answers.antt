use Rattle.netlink_core.specs.Items.{IsItemOf}
use Rattle.netlink_packet_sock_diag.specs.Message.{message_codec}
use Rattle.netlink_packet_sock_diag.proofs.DumpRows.{equal_dumps}
use Rattle.netlink_packet_sock_diag.proofs.laws.same_items_have_one_dump.Goals as goal

pub returns : goal.returns
returns c = equal_dumps (IsItemOf message_codec) c.one_list_of_items.ensures
