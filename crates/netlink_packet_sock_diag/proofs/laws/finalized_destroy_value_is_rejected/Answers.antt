use Rattle.std.proofs.Common.{refl}
use Rattle.netlink_packet_sock_diag.specs.MessageModel.{message_model}
use Rattle.netlink_packet_sock_diag.proofs.NetlinkMessages.{destroy_is_rejected}
use Rattle.netlink_packet_sock_diag.proofs.laws.finalized_destroy_value_is_rejected.Goals as goal

pub returns : goal.returns
returns c = λ message destroy rest is in_range fits. rw is
    (destroy_is_rejected message.header (message_model destroy.0) rest _ in_range (rw is at fits)
    refl)
