use Rattle.netlink_packet_sock_diag.specs.Lossy.{HasLossyEntry}
use Rattle.netlink_packet_sock_diag.specs.Message.{message_codec}
use Rattle.netlink_packet_sock_diag.specs.laws.Message.{message_laws}
use Rattle.netlink_packet_sock_diag.proofs.DumpRows.{equal_feeds_of_splits, feeding_whole}
use Rattle.netlink_packet_sock_diag.proofs.LossyDumps.{one_list_of_entries, some_entries}
use Rattle.netlink_packet_sock_diag.proofs.laws.split_changes_no_lossy_feed.Goals as goal

pub returns : goal.returns
returns c = record {
  same = equal_feeds_of_splits (HasLossyEntry message_codec)
      (some_entries message_codec message_laws) (one_list_of_entries message_codec message_laws);
  whole = feeding_whole (HasLossyEntry message_codec) (some_entries message_codec message_laws)
      (one_list_of_entries message_codec message_laws);
}
