use Rattle.netlink_packet_sock_diag.proofs.CompleteViews.{drained_views_are_all}
use Rattle.netlink_packet_sock_diag.proofs.laws.complete_views_are_the_datagram.Goals as goal

pub returns : goal.returns
returns c = drained_views_are_all
