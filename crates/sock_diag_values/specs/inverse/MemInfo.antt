-- The inverse of the layout `mem_info`.
use Rattle.std.specs.Prelude.{ℕ, List, slice_index, slice_get}
use Rattle.sock_diag_values.specs.declared.inet.mem_info.MemInfo.{MemInfo}

-- `mem_info_of values`: the value with these seven to nine numbers in its fields, in the order of
-- the rows of `mem_info`. With fewer than eight numbers the backlog is `None`, with fewer than nine
-- the drops (`slice_get`).
abbrev pub mem_info_of : List ℕ → MemInfo
mem_info_of values = record {
  receive_queue = slice_index values 0;
  receive_queue_max = slice_index values 1;
  bottom_send_queues = slice_index values 2;
  send_queue_max = slice_index values 3;
  cache = slice_index values 4;
  send_queue = slice_index values 5;
  options = slice_index values 6;
  backlog_queue_length = slice_get values 7;
  drops = slice_get values 8;
}
