use Rattle.std.proofs.Common.{arith}
use Rattle.netlink_packet_sock_diag.proofs.NetlinkMessages.{normal_payload}
use Rattle.netlink_packet_sock_diag.proofs.laws.finalized_message_round_trips.Goals as goal

pub returns : goal.returns
returns c =
    grind (arith, normal_payload, c.finalized_message_round_trips.ensures)
