-- The significant bits of the records: a mask for each byte, 255 if the byte is significant, 0 if
-- it is ignored. A byte range does not include its end. Offsets are those of the C structs.
use Rattle.std.specs.Prelude.{ℕ, ◌*◌, ◌/◌, List, ◌++◌, length, min}
use Rattle.netlink_core.specs.SignificantBits.{significant, ignored}

-- `struct unix_diag_vfs`: 0..8, all significant
abbrev pub vfs_masks : List ℕ
vfs_masks = significant 8

-- the array of nine `u32` of a UNIX socket: `SK_MEMINFO_RCVBUF` at 4..8, `SK_MEMINFO_SNDBUF` at
-- 12..16, `SK_MEMINFO_WMEM_QUEUED` at 20..24; the other 24 of 36 bytes are ignored
abbrev pub unix_mem_info_masks : List ℕ
unix_mem_info_masks = ignored 4 ++ significant 4 ++ ignored 4 ++ significant 4 ++ ignored 4
    ++ significant 4 ++ ignored 12

-- `struct inet_diag_meminfo`: 0..16, all significant
abbrev pub legacy_mem_info_masks : List ℕ
legacy_mem_info_masks = significant 16

-- `complete_u32s_in bytes`: the number of complete `u32` in the bytes, at most nine; the quotient
-- is rounded down
abbrev pub complete_u32s_in : List ℕ → ℕ
complete_u32s_in bytes = min 9 (length bytes / 4)

-- `mem_info_masks count`: the array of `u32` that `SK_MEMINFO_*` indexes, if it has `count`
-- elements: the four bytes of each are significant
abbrev pub mem_info_masks : ℕ → List ℕ
mem_info_masks count = significant (4 * count)

-- `struct tcp_info` up to `tcpi_snd_wnd`: 0..232, all significant
abbrev pub tcp_info_masks : List ℕ
tcp_info_masks = significant 232
