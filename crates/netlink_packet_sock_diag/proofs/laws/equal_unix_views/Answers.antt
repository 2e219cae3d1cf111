use Rattle.sock_diag_replies.specs.laws.UnixResponseSpec.{unix_test_decides}
use Rattle.netlink_packet_sock_diag.proofs.laws.equal_unix_views.Goals as goal

pub returns : goal.returns
returns c = rw c.eq.ensures (unix_test_decides _ _)
