use Rattle.netlink_core.specs.Items.{IsItemOf}
use Rattle.netlink_packet_sock_diag.specs.Message.{message_codec}
use Rattle.netlink_packet_sock_diag.specs.laws.Message.{message_laws}
use Rattle.netlink_packet_sock_diag.proofs.DumpRows.{one_list_of, equal_feeds_of_splits, some_items}
use Rattle.netlink_packet_sock_diag.proofs.DumpRows.{feeding_whole}
use Rattle.netlink_packet_sock_diag.proofs.laws.split_changes_no_feed.Goals as goal

pub returns : goal.returns
returns c = record {
  same = equal_feeds_of_splits (IsItemOf message_codec) (some_items message_codec message_laws)
      (one_list_of message_codec message_laws);
  whole = feeding_whole (IsItemOf message_codec) (some_items message_codec message_laws)
      (one_list_of message_codec message_laws);
}
