-- The numbers of the constants that contracts name.
use Rattle.std.proofs.Common.{◌≡◌, refl}
use Rattle.sock_diag_extras.specs.declared.mptcp_info.TheConstants.{LINUX_MPTCP_INFO_LEN}
use Rattle.sock_diag_extras.specs.declared.tcp_info.TheConstants.{LINUX_TCP_INFO_LEN}

-- the sizes of `struct tcp_info` and `struct mptcp_info` of Linux 7.2
pub struct_lengths : (LINUX_TCP_INFO_LEN ≡ 280) × (LINUX_MPTCP_INFO_LEN ≡ 96)
struct_lengths = (refl, refl)
