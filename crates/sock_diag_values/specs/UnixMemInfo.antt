-- The memory of a UNIX socket: an array of nine little-endian `u32`, 36 bytes.
use Rattle.std.specs.Prelude.{⊤, [], ◌∷◌, replicate}
use Rattle.netlink_core.specs.Layout.{Layout, plain}
use Rattle.netlink_core.specs.declared.error.RecordName.TheVariants as name
use Rattle.sock_diag_values.specs.declared.unix.mem_info.MemInfo.{MemInfo}
use Rattle.sock_diag_values.specs.inverse.UnixMemInfo.{unix_mem_info_of}
use Rattle.netlink_core.specs.Rows.{skip, u32}

-- An array of `u32`, indexed by `SK_MEMINFO_*` (linux/sock_diag.h): `SK_MEMINFO_RCVBUF` at 4,
-- `SK_MEMINFO_SNDBUF` at 12, `SK_MEMINFO_WMEM_QUEUED` at 20. The other six are ignored, and
-- serialized as 0: `skip 8 (replicate 4 0)` is four bytes at offset 8, which are ignored, and
-- serialized as four zeros. Arguments of `plain`: the name in errors, the length in bytes, the
-- rows, their inverse, and the condition on arrays (`⊤`, since there are none). The types
-- `Unit {0}`: there is no parameter, and only one tag.
abbrev pub unix_mem_info : Layout (Unit {0}) (Unit {0}) MemInfo
unix_mem_info = plain name.UnixMemInfo 36 (
    skip 0 (replicate 4 0) ∷
    u32 4 MemInfo.so_rcvbuf ∷
    skip 8 (replicate 4 0) ∷
    u32 12 MemInfo.max_datagram_size ∷
    skip 16 (replicate 4 0) ∷
    u32 20 MemInfo.alloc ∷
    skip 24 (replicate 12 0) ∷ []) unix_mem_info_of (λ value. ⊤)
