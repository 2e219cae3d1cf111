-- The layout `tcp_info` is sound (`MeetsLayoutConditions`), and has a fixed length of 232 bytes.
use Rattle.std.proofs.Common.{refl}
use Rattle.netlink_core.specs.laws.LayoutObligations.{MeetsLayoutConditions, HasFixedSize}
use Rattle.netlink_core.proofs.LayoutLaws.{plain_sound}
use Rattle.sock_diag_values.specs.TcpInfo.{tcp_info}
use Rattle.sock_diag_values.specs.declared.inet.tcp_info.TheConstants.{TCP_INFO_LEN}

pub tcp_info_sound : MeetsLayoutConditions tcp_info
unfolding tcp_info
tcp_info_sound = plain_sound refl (λ value. refl) (λ left. refl) (λ left. tt) (λ value shaped. refl)

pub tcp_info_has_fixed_length : HasFixedSize tcp_info TCP_INFO_LEN
unfolding tcp_info
tcp_info_has_fixed_length = (refl, λ tag. refl)
