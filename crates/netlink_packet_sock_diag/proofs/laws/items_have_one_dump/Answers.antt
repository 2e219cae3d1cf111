use Rattle.netlink_packet_sock_diag.proofs.DumpRows.{has_dump, one_dump}
use Rattle.netlink_packet_sock_diag.proofs.laws.items_have_one_dump.Goals as goal

pub returns : goal.returns
returns c = record { some = has_dump; one = λ before a b items e f. one_dump before items a b e f }
