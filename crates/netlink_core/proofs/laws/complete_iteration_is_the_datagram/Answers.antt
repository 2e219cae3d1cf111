use Rattle.netlink_core.proofs.CompleteDatagram.{drained_messages_are_all}
use Rattle.netlink_core.proofs.CompleteDatagram.{drained_messages_before_error}
use Rattle.netlink_core.proofs.laws.complete_iteration_is_the_datagram.Goals as goal

pub returns : goal.returns
returns c = record { ended = drained_messages_are_all; error = drained_messages_before_error }
