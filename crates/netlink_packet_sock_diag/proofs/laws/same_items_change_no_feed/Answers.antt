use Rattle.netlink_core.specs.Items.{IsItemOf}
use Rattle.netlink_packet_sock_diag.specs.Message.{message_codec}
use Rattle.netlink_packet_sock_diag.specs.laws.Message.{message_laws}
use Rattle.netlink_packet_sock_diag.proofs.DumpRows.{one_list_of, equal_feeds_of_items, some_items}
use Rattle.netlink_packet_sock_diag.proofs.laws.same_items_change_no_feed.Goals as goal

pub returns : goal.returns
returns c = equal_feeds_of_items (IsItemOf message_codec) (some_items message_codec message_laws)
    (one_list_of message_codec message_laws)
