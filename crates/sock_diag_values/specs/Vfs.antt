-- The file that a UNIX socket is bound to: two little-endian `u32`, 8 bytes.
use Rattle.std.specs.Prelude.{⊤, [], ◌∷◌}
use Rattle.netlink_core.specs.Layout.{Layout, plain}
use Rattle.netlink_core.specs.declared.error.RecordName.TheVariants as name
use Rattle.sock_diag_values.specs.declared.unix.vfs.Vfs.{Vfs}
use Rattle.sock_diag_values.specs.inverse.Vfs.{vfs_of}
use Rattle.netlink_core.specs.Rows.{u32}

-- `struct unix_diag_vfs` (linux/unix_diag.h): `udiag_vfs_ino`, `udiag_vfs_dev`. Arguments of
-- `plain`: the name in errors, the length in bytes, the rows, their inverse, and the condition on
-- arrays (`⊤`, since there are none). The types `Unit {0}`: there is no parameter, and only one
-- tag. `u32 4 Vfs.device`: the `__u32` at offset 4 is the member `device`.
abbrev pub vfs : Layout (Unit {0}) (Unit {0}) Vfs
vfs = plain name.Vfs 8 (
    u32 0 Vfs.inode ∷
    u32 4 Vfs.device ∷ []) vfs_of (λ value. ⊤)
