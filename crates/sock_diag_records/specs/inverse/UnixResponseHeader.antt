-- The inverse of the layout `unix_response_header`.
use Rattle.std.specs.Prelude.{ℕ, List, take, drop, slice_index}
use Rattle.sock_diag_records.specs.declared.unix.response.UnixResponseHeader.{UnixResponseHeader}

-- `unix_response_header_of values`: the header with these numbers in the fields that are not
-- ignored, in the order of the rows of `unix_response_header`
abbrev pub unix_response_header_of : List ℕ → UnixResponseHeader
unix_response_header_of values = record {
  kind = slice_index values 0;
  state = slice_index values 1;
  inode = slice_index values 2;
  cookie = take 8 (drop 3 values);
}
