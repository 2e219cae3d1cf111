-- A request for IPv4 or IPv6 sockets, 56 bytes.
use Rattle.std.specs.Prelude.{◌≡◌, [], ◌∷◌, slice_index, Ok}
use Rattle.netlink_core.specs.Rows.{u8, flags32, skip, embed}
use Rattle.netlink_core.specs.Layout.{Layout}
use Rattle.netlink_core.specs.declared.error.RecordName.TheVariants as name
use Rattle.sock_diag_records.specs.declared.inet.request.InetRequest.{InetRequest}
use Rattle.sock_diag_records.specs.SocketId.{HasArrayLengths, socket_id_rows}
use Rattle.sock_diag_records.specs.IpVersions.{IpVersions, versions_of, versions_of_family}
use Rattle.sock_diag_records.specs.inverse.InetRequest.{inet_request_of}

-- `struct inet_diag_req_v2` (linux/inet_diag.h), by offsets:
--   0  `sdiag_family`: has to be AF_INET or AF_INET6, and selects the IP version of both addresses
--   1  `sdiag_protocol`
--   2  `idiag_ext`: all bits are defined
--   3  `pad`: ignored, and serialized as 0
--   4  `idiag_states`: the mask 0xffe has the bits of `inet_state_flags`, 1 (`TCP_ESTABLISHED`) to
--      11 (`TCP_CLOSING`); the parser clears all others
--   8  `id`: a `struct inet_diag_sockid`, with addresses of these IP versions
-- The tag is the IP versions of both addresses (`versions`). The parser has no parameter
-- (`Unit {0}`).
unfoldable pub inet_request : Layout (Unit {0}) IpVersions InetRequest
inet_request = record {
  name = name.InetRequest;
  least = 56;
  -- bytes are parsed by the IP version of their family, or rejected for another family
  tag_for = λ param bytes. versions_of_family (slice_index bytes 0);
  -- a value is serialized with each address in its own IP version
  tag_of = λ value. versions_of value.socket_id;
  rows = λ versions.
      u8 0 InetRequest.family ∷
      u8 1 InetRequest.protocol ∷
      u8 2 (λ request. request.extensions.0) ∷
      skip 3 (0 ∷ []) ∷
      flags32 4 0xffe (λ request. request.states.0) ∷
      embed InetRequest.socket_id (socket_id_rows 8 versions) ∷ [];
  -- the request with these numbers in the rows for these versions
  value = inet_request_of;
  -- the addresses and the cookie have their lengths
  arrays_fit = λ value. HasArrayLengths value.socket_id;
  -- both addresses are of the family's IP version
  is_consistent = λ param value. versions_of_family value.family ≡ Ok (versions_of value.socket_id);
}
