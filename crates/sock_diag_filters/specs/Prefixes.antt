-- Addresses and ports in the operations of a filter.
use Rattle.std.specs.Prelude.{ℕ, List, ◌∷◌}
use Rattle.std.specs.List.{flat_map}
use Rattle.byteorder.specs.Endian.{big_bytes, little_bytes}
use Rattle.std.specs.declared.net.ip_addr.IpAddr.{IpAddr}
use Rattle.std.specs.declared.net.ip_addr.IpAddr.TheVariants.{V4, V6}
use Rattle.netlink_core.specs.Table.{first_numbers}
use Rattle.sock_diag_records.specs.declared.constants.TheConstants.{AF_INET, AF_INET6}

-- The length of an address in bits.
abbrev pub bits_of : IpAddr → ℕ
bits_of (V4 ip) = 32
bits_of (V6 ip) = 128

-- The family of an address.
abbrev pub family_of : IpAddr → ℕ
family_of (V4 ip) = AF_INET
family_of (V6 ip) = AF_INET6

-- The octets of an address in network byte order: the four of an IPv4 address, or two for each of
-- the eight segments of an IPv6 address.
abbrev pub octets_of : IpAddr → List ℕ
octets_of (V4 ip) = first_numbers 4 ip.octets
octets_of (V6 ip) = flat_map (big_bytes 2) (first_numbers 8 ip.segments)

-- The arguments of a comparison of ports: a `struct inet_diag_bc_op` whose `code` and `yes` are 0
-- and whose `no` is the port, a little-endian u16.
abbrev pub port_bytes : ℕ → List ℕ
port_bytes port = 0 ∷ 0 ∷ little_bytes 2 port
