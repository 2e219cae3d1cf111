-- The memory of a socket in the format of old kernels: four little-endian `u32`, 16 bytes.
use Rattle.std.specs.Prelude.{⊤, [], ◌∷◌}
use Rattle.netlink_core.specs.Layout.{Layout, plain}
use Rattle.netlink_core.specs.declared.error.RecordName.TheVariants as name
use Rattle.sock_diag_values.specs.declared.inet.legacy_mem_info.LegacyMemInfo.{LegacyMemInfo}
use Rattle.sock_diag_values.specs.inverse.LegacyMemInfo.{legacy_mem_info_of}
use Rattle.netlink_core.specs.Rows.{u32}

-- `struct inet_diag_meminfo` (linux/inet_diag.h): `idiag_rmem`, `idiag_wmem`, `idiag_fmem`,
-- `idiag_tmem`, in the order of the rows. Arguments of `plain`: the name in errors, the length in
-- bytes, the rows, their inverse, and the condition on arrays (`⊤`, since there are none). The
-- types `Unit {0}`: there is no parameter, and only one tag.
-- `u32 4 LegacyMemInfo.bottom_send_queue`: the `__u32` at offset 4 is this member.
abbrev pub legacy_mem_info : Layout (Unit {0}) (Unit {0}) LegacyMemInfo
legacy_mem_info = plain name.LegacyMemInfo 16 (
    u32 0 LegacyMemInfo.receive_queue ∷
    u32 4 LegacyMemInfo.bottom_send_queue ∷
    u32 8 LegacyMemInfo.cache ∷
    u32 12 LegacyMemInfo.send_queue ∷ []) legacy_mem_info_of (λ value. ⊤)
