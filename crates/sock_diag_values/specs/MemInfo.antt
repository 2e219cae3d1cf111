-- The memory of a socket: an array of seven, eight or nine little-endian `u32`. Newer kernels added
-- the last two, one by one.
use Rattle.std.specs.Prelude.{⊤, ℕ, List, [], ◌∷◌, Ok, nat_lt, is_some, if◌then◌else◌, length}
use Rattle.std.specs.Prelude.{unwrap_or, IfSome, IsSome}
use Rattle.netlink_core.specs.Layout.{Layout}
use Rattle.netlink_core.specs.declared.error.RecordName.TheVariants as name
use Rattle.sock_diag_values.specs.declared.inet.mem_info.MemInfo.{MemInfo}
use Rattle.sock_diag_values.specs.inverse.MemInfo.{mem_info_of}
use Rattle.sock_diag_values.specs.declared.inet.mem_info.MemInfoBytes.{MemInfoBytes}
use Rattle.sock_diag_values.specs.declared.inet.mem_info.MemInfoBytes.TheVariants.{Seven, Eight}
use Rattle.sock_diag_values.specs.declared.inet.mem_info.MemInfoBytes.TheVariants.{Nine}
use Rattle.netlink_core.specs.Rows.{u32, when}

-- `mem_info_u32_count size`: how many `u32` are parsed from `size` bytes: 7 from 28 to 31 bytes,
-- 8 from 32 to 35, and 9 from 36 or more. It is not used for fewer than 28 bytes.
abbrev pub mem_info_u32_count : (size : ℕ) → ℕ
mem_info_u32_count size = if nat_lt size 32 then 7 else if nat_lt size 36 then 8 else 9

-- An array of `u32`, indexed by `SK_MEMINFO_*` (linux/sock_diag.h), of at least 28 bytes. The rows
-- are `SK_MEMINFO_RMEM_ALLOC`, `_RCVBUF`, `_WMEM_ALLOC`, `_SNDBUF`, `_FWD_ALLOC`, `_WMEM_QUEUED`,
-- `_OPTMEM`, `_BACKLOG` and `_DROPS`. The tag is the number of elements, 7, 8 or 9 (`count`).
abbrev pub mem_info : Layout (Unit {0}) ℕ MemInfo
mem_info = record {
  name = name.MemInfo;
  least = 28;
  -- bytes are parsed with as many elements as they contain, at most nine
  tag_for = λ param bytes. Ok (mem_info_u32_count (length bytes));
  -- a value is serialized with nine elements if it has drops, else with eight if it has a backlog,
  -- else with seven
  tag_of = λ value.
      if is_some value.drops then 9 else if is_some value.backlog_queue_length then 8 else 7;
  -- `when test row`: the row is present if the test is true. A missing backlog before drops is
  -- serialized as 0. The 0 for missing drops is never used: with nine elements there are drops.
  rows = λ count.
      u32 0 MemInfo.receive_queue ∷
      u32 4 MemInfo.receive_queue_max ∷
      u32 8 MemInfo.bottom_send_queues ∷
      u32 12 MemInfo.send_queue_max ∷
      u32 16 MemInfo.cache ∷
      u32 20 MemInfo.send_queue ∷
      u32 24 MemInfo.options ∷
      when (nat_lt 7 count) (u32 28 (λ value. unwrap_or value.backlog_queue_length 0)) ∷
      when (nat_lt 8 count) (u32 32 (λ value. unwrap_or value.drops 0)) ∷ [];
  -- a missing backlog or number of drops is parsed as `None`
  value = λ count values. mem_info_of values;
  -- there are no arrays
  arrays_fit = λ value. ⊤;
  -- a value with drops has a backlog
  is_consistent = λ param value. IfSome value.drops (λ drops. IsSome value.backlog_queue_length);
}

-- `mem_info_buffer_bytes array`: the 28, 32 or 36 bytes in the variant `Seven`, `Eight` or `Nine`
abbrev pub mem_info_buffer_bytes : MemInfoBytes → List ℕ
mem_info_buffer_bytes (Seven bytes) = bytes
mem_info_buffer_bytes (Eight bytes) = bytes
mem_info_buffer_bytes (Nine bytes) = bytes
