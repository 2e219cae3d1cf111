use Rattle.netlink_packet_sock_diag.specs.Message.{message_codec}
use Rattle.netlink_packet_sock_diag.proofs.LossyDumps.{lossy_dump_error, lossy_entries_of_dump}
use Rattle.netlink_packet_sock_diag.proofs.laws.lossy_dump_keeps_messages.Goals as goal

pub returns : goal.returns
returns c = record {
  kept = lossy_entries_of_dump message_codec;
  error = lossy_dump_error message_codec;
}
