use Rattle.std.proofs.Common.{refl}
use Rattle.netlink_core.proofs.SignificantBits.{equivalent_by_masks}
use Rattle.sock_diag_values.specs.SignificantBits.{vfs_masks}
use Rattle.sock_diag_values.specs.Vfs.{vfs}
use Rattle.sock_diag_values.proofs.laws.equivalent_vfs.Goals as goal

pub returns : goal.returns
returns c = equivalent_by_masks vfs vfs_masks (λ b. refl) refl refl
