-- An address of an SCTP socket or association, in INET_DIAG_LOCALS or INET_DIAG_PEERS, 128 bytes.
use Rattle.std.specs.Prelude.{◌≡◌, ◌==◌, if◌then◌else◌, [], ◌∷◌, length, take, drop, slice_index}
use Rattle.std.specs.Prelude.{Option, Some, None}
use Rattle.std.specs.declared.net.ip_addr.IpAddr.{IpAddr}
use Rattle.std.specs.declared.net.ip_addr.IpAddr.TheVariants.{V4, V6}
use Rattle.sock_diag_extras.specs.RecordTable.{RecordTable}
use Rattle.sock_diag_extras.specs.declared.stored_address.StoredAddress.{StoredAddress}
use Rattle.netlink_core.specs.Rows.{u16, u32, be16, be16s, u8s}
use Rattle.sock_diag_records.specs.declared.constants.TheConstants.{AF_INET, AF_INET6}

-- `struct sockaddr_storage` (sys/socket.h). By the family it starts with one of two structs:
-- `struct sockaddr_in` (ip(7)) with `sin_port` at 2 and `sin_addr` at 4; or `struct sockaddr_in6`
-- (ipv6(7)) with `sin6_port` at 2, `sin6_flowinfo` at 4, `sin6_addr` at 8 and `sin6_scope_id` at
-- 24. A row such as `be16s 8 8 segments` is an array of 8 numbers at offset 8, here of 16 bits in
-- network byte order. `value` makes the record of the numbers in its rows. Counted from 0, numbers
-- 2 to 5 are `front`, 6 to 13 are `segments`, 14 is `scope_id`, and 15 to 114 are `rest`.
abbrev pub stored_address : RecordTable StoredAddress
stored_address = record {
  size = 128;
  rows =
      u16 0 StoredAddress.family ∷
      be16 2 StoredAddress.port ∷
      u8s 4 4 StoredAddress.front ∷
      be16s 8 8 StoredAddress.segments ∷
      u32 24 StoredAddress.scope_id ∷
      u8s 28 100 StoredAddress.rest ∷ [];
  value = λ numbers. record {
    family = slice_index numbers 0;
    port = slice_index numbers 1;
    front = take 4 (drop 2 numbers);
    segments = take 8 (drop 6 numbers);
    scope_id = slice_index numbers 14;
    rest = take 100 (drop 15 numbers);
  };
  arrays_fit = λ v. (length v.front ≡ 4) × (length v.segments ≡ 8) × (length v.rest ≡ 100);
}

-- `ip_of a`: the IP address. If the family is AF_INET, it is the IPv4 address with the octets
-- `front`; if it is AF_INET6, the IPv6 address with the segments `segments`; None for any other
-- family.
abbrev pub ip_of : StoredAddress → Option IpAddr
ip_of a =
    if a.family == AF_INET then Some (V4 record { octets = a.front })
    else if a.family == AF_INET6 then Some (V6 record { segments = a.segments }) else None
