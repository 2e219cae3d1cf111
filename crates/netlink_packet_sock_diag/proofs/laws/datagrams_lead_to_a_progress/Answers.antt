use Rattle.netlink_core.specs.Items.{IsItemOf}
use Rattle.netlink_core.proofs.Framing.{message_error_is_not_memory}
use Rattle.netlink_packet_sock_diag.specs.Lossy.{HasLossyEntry}
use Rattle.netlink_packet_sock_diag.specs.Message.{message_codec}
use Rattle.netlink_packet_sock_diag.specs.laws.Message.{message_laws}
use Rattle.netlink_packet_sock_diag.proofs.DumpRows.{some_items}
use Rattle.netlink_packet_sock_diag.proofs.Feeding.{datagrams_can_be_fed}
use Rattle.netlink_packet_sock_diag.proofs.LossyDumps.{some_entries}
use Rattle.netlink_packet_sock_diag.proofs.laws.datagrams_lead_to_a_progress.Goals as goal

pub returns : goal.returns
returns c = record {
  reader = datagrams_can_be_fed (IsItemOf message_codec) (some_items message_codec message_laws)
      (λ message. message_error_is_not_memory message_codec message
      message_laws.error_is_not_memory);
  lossy = datagrams_can_be_fed (HasLossyEntry message_codec)
      (some_entries message_codec message_laws) (λ message error. error);
}
