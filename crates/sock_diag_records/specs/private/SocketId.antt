-- The bytes of an address in a socket id.
use Rattle.std.specs.Prelude.{ℕ, List, ◌++◌, replicate}
use Rattle.std.specs.List.{flat_map}
use Rattle.byteorder.specs.Endian.{big_bytes}
use Rattle.std.specs.declared.net.ip_addr.IpAddr.{IpAddr}
use Rattle.std.specs.declared.net.ip_addr.IpAddr.TheVariants.{V4, V6}
use Rattle.netlink_core.specs.Table.{first_numbers}

-- `address_field_bytes address`: the 16 bytes that the address serializes to: the four octets of an
-- IPv4 address and twelve zeros, or the eight segments of an IPv6 address in network byte order
abbrev pub address_field_bytes : IpAddr → List ℕ
address_field_bytes (V4 ip) = first_numbers 4 ip.octets ++ replicate 12 0
address_field_bytes (V6 ip) = flat_map (big_bytes 2) (first_numbers 8 ip.segments)
