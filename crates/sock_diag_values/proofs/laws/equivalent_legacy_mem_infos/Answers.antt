use Rattle.std.proofs.Common.{refl}
use Rattle.netlink_core.proofs.SignificantBits.{equivalent_by_masks}
use Rattle.sock_diag_values.specs.SignificantBits.{legacy_mem_info_masks}
use Rattle.sock_diag_values.specs.LegacyMemInfo.{legacy_mem_info}
use Rattle.sock_diag_values.proofs.laws.equivalent_legacy_mem_infos.Goals as goal

pub returns : goal.returns
returns c = equivalent_by_masks legacy_mem_info legacy_mem_info_masks (λ b. refl) refl refl
