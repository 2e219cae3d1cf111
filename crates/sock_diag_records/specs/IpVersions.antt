-- The IP versions of the two addresses of a socket id, and the IP version that an address family
-- selects.
use Rattle.std.specs.Prelude.{ℕ, ◌==◌, if◌then◌else◌, List, Result, Ok, Err}
use Rattle.std.specs.declared.net.ip_addr.IpAddr.{IpAddr}
use Rattle.std.specs.declared.net.ip_addr.IpAddr.TheVariants.{V4, V6}
use Rattle.sock_diag_records.specs.declared.inet.socket_id.SocketId.{SocketId}
use Rattle.sock_diag_records.specs.declared.constants.TheConstants.{AF_INET, AF_INET6}
use Rattle.netlink_core.specs.declared.error.DecodeError.{DecodeError}
use Rattle.netlink_core.specs.declared.error.DecodeError.TheVariants.{UnsupportedFamily}

-- an IP version
pub data IpVersion : Type 0 where
  ipv4 ipv6 : IpVersion

-- the IP versions of the source address and of the destination address
abbrev pub IpVersions : Type 0
IpVersions = IpVersion × IpVersion

-- `versions_of_family family`: `Ok` of the IP version that the address family selects for both
-- addresses, IPv4 by AF_INET and IPv6 by AF_INET6. For any other family `Err` of
-- `UnsupportedFamily`, which contains it.
abbrev pub versions_of_family : ℕ → Result IpVersions DecodeError
versions_of_family family = if family == AF_INET then Ok (ipv4, ipv4)
    else if family == AF_INET6 then Ok (ipv6, ipv6) else Err (UnsupportedFamily family)

-- `address_data address`: three members: its IP version (`.0`); how many octets or segments an
-- address of this version has (`.1`); the octets or segments of this address (`.2`)
abbrev pub address_data : IpAddr → IpVersion × ℕ × List ℕ
address_data (V4 ip) = (ipv4, 4, ip.octets)
address_data (V6 ip) = (ipv6, 8, ip.segments)

-- `ip_version_of address`: the IP version of the address
abbrev pub ip_version_of : IpAddr → IpVersion
ip_version_of address = (address_data address).0

-- `octets_or_segments address`: the octets of an IPv4 address, or the segments of an IPv6 address
abbrev pub octets_or_segments : IpAddr → List ℕ
octets_or_segments address = (address_data address).2

-- `octet_or_segment_count address`: how many octets or segments an address of this IP version has
-- to have: 4 octets for IPv4, 8 segments for IPv6
abbrev pub octet_or_segment_count : IpAddr → ℕ
octet_or_segment_count address = (address_data address).1

-- `versions_of id`: the IP versions of the source address and of the destination address of the
-- socket id
abbrev pub versions_of : SocketId → IpVersions
versions_of id = (ip_version_of id.source_address, ip_version_of id.destination_address)
