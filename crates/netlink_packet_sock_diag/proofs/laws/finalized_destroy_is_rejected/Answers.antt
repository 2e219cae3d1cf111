use Rattle.std.proofs.Common.{[], sym}
use Rattle.std.proofs.lemmas.List.{append-nil}
use Rattle.netlink_packet_sock_diag.proofs.NetlinkMessages.{destroy_is_rejected}
use Rattle.netlink_packet_sock_diag.proofs.NetlinkMessages.{finalized_destroy_bytes}
use Rattle.netlink_packet_sock_diag.proofs.laws.finalized_destroy_is_rejected.Goals as goal

pub returns : goal.returns
returns c = λ h m in_range fits.
    destroy_is_rejected h m [] (finalized_destroy_bytes h m) in_range fits
    (sym (append-nil (finalized_destroy_bytes h m)))
