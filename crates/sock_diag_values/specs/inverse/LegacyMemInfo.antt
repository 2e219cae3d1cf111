-- The inverse of the layout `legacy_mem_info`.
use Rattle.std.specs.Prelude.{ℕ, List, slice_index}
use Rattle.sock_diag_values.specs.declared.inet.legacy_mem_info.LegacyMemInfo.{LegacyMemInfo}

-- `legacy_mem_info_of values`: the value with these numbers in its fields, in the order of the rows
-- of `legacy_mem_info`
abbrev pub legacy_mem_info_of : List ℕ → LegacyMemInfo
legacy_mem_info_of values = record {
  receive_queue = slice_index values 0;
  bottom_send_queue = slice_index values 1;
  cache = slice_index values 2;
  send_queue = slice_index values 3;
}
