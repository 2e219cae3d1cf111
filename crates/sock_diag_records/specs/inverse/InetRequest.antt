-- The inverse of the layout `inet_request`.
use Rattle.std.specs.Prelude.{ℕ, List, drop, slice_index}
use Rattle.sock_diag_records.specs.declared.inet.request.InetRequest.{InetRequest}
use Rattle.sock_diag_records.specs.IpVersions.{IpVersions}
use Rattle.sock_diag_records.specs.inverse.SocketId.{socket_id_of}

-- `inet_request_of versions values`: the request with these numbers in the fields that are not
-- ignored, in the order of the rows of `inet_request`, and with addresses of these IP versions
abbrev pub inet_request_of : IpVersions → List ℕ → InetRequest
inet_request_of versions values = record {
  family = slice_index values 0;
  protocol = slice_index values 1;
  extensions = record { 0 = slice_index values 2 };
  states = record { 0 = slice_index values 3 };
  socket_id = socket_id_of versions (drop 4 values);
}
