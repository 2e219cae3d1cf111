-- The id of an IPv4 or IPv6 socket, 48 bytes. An address field has 16 bytes. An IPv4 address is in
-- the first four, as octets. An IPv6 address is in all, as eight segments in network byte order.
use Rattle.std.specs.Prelude.{◌≡◌, ℕ, ◌+◌, List, [], ◌∷◌, ◌++◌, length, replicate, Ok}
use Rattle.std.specs.declared.net.ip_addr.IpAddr.{IpAddr}
use Rattle.netlink_core.specs.Table.{Field, unread, bytes_at, first_numbers, network, array}
use Rattle.netlink_core.specs.Layout.{Layout}
use Rattle.sock_diag_records.specs.declared.inet.socket_id.SocketId.{SocketId}
use Rattle.netlink_core.specs.declared.error.RecordName.TheVariants as name
use Rattle.sock_diag_records.specs.IpVersions.{IpVersion, ipv4, ipv6, IpVersions}
use Rattle.sock_diag_records.specs.IpVersions.{versions_of_family, versions_of}
use Rattle.sock_diag_records.specs.IpVersions.{octets_or_segments, octet_or_segment_count}
use Rattle.sock_diag_records.specs.inverse.SocketId.{socket_id_of}
use Rattle.netlink_core.specs.Rows.{Row, be16, u32, u8s}

-- `address_fields offset version`: the fields of an address whose 16 bytes start at the offset. For
-- IPv4: four octets, and twelve bytes that are ignored and serialized as 0. For IPv6: eight
-- segments of two bytes, big-endian.
abbrev pub address_fields : (offset : ℕ) → IpVersion → List Field
address_fields offset ipv4 = bytes_at offset 4 ++ unread (offset + 4) (replicate 12 0) ∷ []
address_fields offset ipv6 = array network offset 2 8

-- `address_values address`: the four octets or eight segments of the address, one for each field of
-- `address_fields` that is not ignored. `first_numbers` makes the count right for any list; an
-- address in range (`HasAddressLength`) has it already.
abbrev pub address_values : IpAddr → List ℕ
address_values address =
    first_numbers (octet_or_segment_count address) (octets_or_segments address)

-- ---- the record

-- `address offset version get`: the row for an address of this IP version at the offset, in C
-- `__be32[4]`. `get` returns the address that is stored there from a `SocketId`.
abbrev pub address : (offset : ℕ) → IpVersion → (SocketId → IpAddr) → Row SocketId
address offset version get = (address_fields offset version, λ value. address_values (get value))

-- `socket_id_rows offset versions`: a `struct inet_diag_sockid` (linux/inet_diag.h) that starts at
-- the offset of an outer struct, with a local and a remote address of these IP versions. By offsets
-- in the inner struct:
--   0   `idiag_sport`, `idiag_dport`: ports, in network byte order
--   4   `idiag_src`: the local address, of the first version
--   20  `idiag_dst`: the remote address, of the second version
--   36  `idiag_if`: little-endian
--   40  `idiag_cookie`: eight bytes
abbrev pub socket_id_rows : (offset : ℕ) → IpVersions → List (Row SocketId)
socket_id_rows offset versions =
    be16 offset SocketId.source_port ∷
    be16 (offset + 2) SocketId.destination_port ∷
    address (offset + 4) versions.0 SocketId.source_address ∷
    address (offset + 20) versions.1 SocketId.destination_address ∷
    u32 (offset + 36) SocketId.interface_id ∷
    u8s (offset + 40) 8 SocketId.cookie ∷ []

-- `HasAddressLength address`: the address has four octets if it is IPv4, and eight segments if it
-- is IPv6, as each Rust value has
abbrev pub HasAddressLength : IpAddr → Type 0
HasAddressLength address = length (octets_or_segments address) ≡ octet_or_segment_count address

-- `HasArrayLengths id`: both addresses of the socket id have the right number of octets or
-- segments, and the cookie has eight bytes
abbrev pub HasArrayLengths : SocketId → Type 0
HasArrayLengths id = HasAddressLength id.source_address × HasAddressLength id.destination_address
    × (length id.cookie ≡ 8)

-- `struct inet_diag_sockid` by itself, 48 bytes. The parameter is the address family, which is not
-- in these bytes. The tag is the IP versions of both addresses.
unfoldable pub socket_id : Layout ℕ IpVersions SocketId
socket_id = record {
  name = name.SocketId;
  least = 48;
  -- bytes are parsed by the IP version of the family, or rejected for another family
  tag_for = λ family bytes. versions_of_family family;
  -- a value is serialized with each address in its own IP version
  tag_of = versions_of;
  -- the struct starts at offset 0
  rows = socket_id_rows 0;
  -- the id with these numbers in the rows for these versions
  value = socket_id_of;
  -- the addresses and the cookie have their lengths
  arrays_fit = HasArrayLengths;
  -- both addresses are of the family's IP version
  is_consistent = λ family value. versions_of_family family ≡ Ok (versions_of value);
}
