use Rattle.netlink_packet_sock_diag.proofs.DumpRows.{dump_of_joined, parted}
use Rattle.netlink_packet_sock_diag.proofs.laws.dump_over_concatenation.Goals as goal

pub returns : goal.returns
returns c = λ before after end xs ys.
    (parted before after end xs ys, λ p. dump_of_joined before p.0 after p.1 end xs ys p.2 p.3)
