use Rattle.std.proofs.Common.{refl}
use Rattle.netlink_core.proofs.SignificantBits.{equivalent_by_masks}
use Rattle.sock_diag_values.specs.SignificantBits.{tcp_info_masks}
use Rattle.sock_diag_values.specs.TcpInfo.{tcp_info}
use Rattle.sock_diag_values.proofs.laws.equivalent_tcp_infos.Goals as goal

pub returns : goal.returns
unfolding tcp_info
returns c = equivalent_by_masks tcp_info tcp_info_masks (λ b. refl) refl refl
