use Rattle.netlink_packet_sock_diag.specs.Message.{kind_of}
use Rattle.netlink_packet_sock_diag.proofs.NetlinkMessages.{one_of_four_kinds}
use Rattle.netlink_packet_sock_diag.proofs.laws.one_kind.Goals as goal

pub returns : goal.returns
returns c = λ m. one_of_four_kinds (kind_of m)
