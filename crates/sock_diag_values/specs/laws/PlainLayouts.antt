-- The layouts `legacy_mem_info`, `unix_mem_info` and `vfs` are sound (`MeetsLayoutConditions`).
use Rattle.std.proofs.Common.{refl}
use Rattle.netlink_core.specs.laws.LayoutObligations.{MeetsLayoutConditions}
use Rattle.netlink_core.proofs.LayoutLaws.{plain_sound}
use Rattle.sock_diag_values.specs.LegacyMemInfo.{legacy_mem_info}
use Rattle.sock_diag_values.specs.UnixMemInfo.{unix_mem_info}
use Rattle.sock_diag_values.specs.Vfs.{vfs}

pub legacy_mem_info_sound : MeetsLayoutConditions legacy_mem_info
legacy_mem_info_sound = plain_sound refl (λ _. refl) (λ _. refl) (λ _. tt) (λ _ _. refl)

pub unix_mem_info_sound : MeetsLayoutConditions unix_mem_info
unix_mem_info_sound = plain_sound refl (λ _. refl) (λ _. refl) (λ _. tt) (λ _ _. refl)

pub vfs_sound : MeetsLayoutConditions vfs
vfs_sound = plain_sound refl (λ _. refl) (λ _. refl) (λ _. tt) (λ _ _. refl)
