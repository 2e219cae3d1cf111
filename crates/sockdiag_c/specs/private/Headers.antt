-- Addresses in the header of a reply.
use Rattle.std.specs.Prelude.{◌≡◌, ℕ, List}
use Rattle.std.specs.declared.net.ip_addr.IpAddr.{IpAddr}
use Rattle.netlink_core.specs.Table.{values_of}
use Rattle.sock_diag_records.specs.IpVersions.{ip_version_of, octets_or_segments}
use Rattle.sock_diag_records.specs.SocketId.{address_fields}

-- `HasAddressAt offset bytes address`: the bytes have the address at the offset, in the fields of
-- its IP version
abbrev pub HasAddressAt : ℕ → List ℕ → IpAddr → Type 0
HasAddressAt offset bytes address =
    octets_or_segments address ≡ values_of (address_fields offset (ip_version_of address)) bytes
