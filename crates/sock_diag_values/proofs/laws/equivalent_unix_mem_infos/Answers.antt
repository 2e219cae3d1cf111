use Rattle.std.proofs.Common.{refl}
use Rattle.netlink_core.proofs.SignificantBits.{equivalent_by_masks}
use Rattle.sock_diag_values.specs.SignificantBits.{unix_mem_info_masks}
use Rattle.sock_diag_values.specs.UnixMemInfo.{unix_mem_info}
use Rattle.sock_diag_values.proofs.laws.equivalent_unix_mem_infos.Goals as goal

pub returns : goal.returns
returns c = equivalent_by_masks unix_mem_info unix_mem_info_masks (λ b. refl) refl refl
