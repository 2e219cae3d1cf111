use Rattle.netlink_core.specs.Items.{IsItemOf}
use Rattle.netlink_packet_sock_diag.specs.Lossy.{HasLossyEntry}
use Rattle.netlink_packet_sock_diag.specs.Message.{message_codec}
use Rattle.netlink_packet_sock_diag.specs.laws.Message.{message_laws}
use Rattle.netlink_packet_sock_diag.proofs.DumpRows.{items_of_splits, one_list_of, some_items}
use Rattle.netlink_packet_sock_diag.proofs.LossyDumps.{one_list_of_entries, some_entries}
use Rattle.netlink_packet_sock_diag.proofs.laws.splits_have_same_items.Goals as goal

pub returns : goal.returns
returns c = record {
  reader = items_of_splits (IsItemOf message_codec) (some_items message_codec message_laws)
      (one_list_of message_codec message_laws);
  lossy = items_of_splits (HasLossyEntry message_codec)
      (some_entries message_codec message_laws) (one_list_of_entries message_codec message_laws);
}
