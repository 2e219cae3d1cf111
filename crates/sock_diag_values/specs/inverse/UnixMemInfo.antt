-- The inverse of the layout `unix_mem_info`.
use Rattle.std.specs.Prelude.{ℕ, List, slice_index}
use Rattle.sock_diag_values.specs.declared.unix.mem_info.MemInfo.{MemInfo}

-- `unix_mem_info_of values`: the value with these three numbers in the fields that are not ignored,
-- in the order of the rows of `unix_mem_info`
abbrev pub unix_mem_info_of : List ℕ → MemInfo
unix_mem_info_of values = record {
  so_rcvbuf = slice_index values 0;
  max_datagram_size = slice_index values 1;
  alloc = slice_index values 2;
}
