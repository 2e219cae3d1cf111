-- The inverse of the layout `socket_id`.
use Rattle.std.specs.Prelude.{ℕ, List, take, drop, slice_index}
use Rattle.std.specs.declared.net.ip_addr.IpAddr.{IpAddr}
use Rattle.std.specs.declared.net.ip_addr.IpAddr.TheVariants.{V4, V6}
use Rattle.sock_diag_records.specs.declared.inet.socket_id.SocketId.{SocketId}
use Rattle.sock_diag_records.specs.IpVersions.{IpVersion, ipv4, ipv6, IpVersions}

-- `address_value_count version`: the number of values of an address of this IP version: four octets
-- or eight segments
abbrev pub address_value_count : IpVersion → ℕ
address_value_count ipv4 = 4
address_value_count ipv6 = 8

-- `address_of version values`: the address of this IP version whose octets or segments are the
-- first four or eight values
abbrev pub address_of : IpVersion → List ℕ → IpAddr
address_of ipv4 values = V4 record { octets = take 4 values }
address_of ipv6 values = V6 record { segments = take 8 values }

-- `socket_id_of versions values`: the id with these numbers in the fields that are not ignored, in
-- the order of `socket_id_rows`, and with addresses of these IP versions. `from_..` are the numbers
-- from a field on.
abbrev pub socket_id_of : IpVersions → List ℕ → SocketId
socket_id_of versions values =
    let from_source = drop 2 values in
    let from_destination = drop (address_value_count versions.0) from_source in
    let from_interface = drop (address_value_count versions.1) from_destination in
    record {
      source_port = slice_index values 0;
      destination_port = slice_index values 1;
      source_address = address_of versions.0 from_source;
      destination_address = address_of versions.1 from_destination;
      interface_id = slice_index from_interface 0;
      cookie = take 8 (drop 1 from_interface);
    }
