-- The inverse of the layout `unix_request`.
use Rattle.std.specs.Prelude.{ℕ, List, take, drop, slice_index}
use Rattle.sock_diag_records.specs.declared.unix.request.UnixRequest.{UnixRequest}

-- `unix_request_of values`: the request with these numbers in the fields that are not ignored, in
-- the order of the rows of `unix_request`
abbrev pub unix_request_of : List ℕ → UnixRequest
unix_request_of values = record {
  state_flags = record { 0 = slice_index values 0 };
  inode = slice_index values 1;
  show_flags = record { 0 = slice_index values 2 };
  cookie = take 8 (drop 3 values);
}
