use Rattle.sock_diag_replies.specs.laws.InetResponseSpec.{inet_test_decides}
use Rattle.netlink_packet_sock_diag.proofs.laws.equal_inet_views.Goals as goal

pub returns : goal.returns
returns c = rw c.eq.ensures (inet_test_decides _ _)
