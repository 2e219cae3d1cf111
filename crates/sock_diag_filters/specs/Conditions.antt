-- Conditions as operations of linux/inet_diag.h: the code INET_DIAG_BC_.. and the arguments of
-- each.
use Rattle.std.specs.Prelude.{◌≡◌, ℕ, ◌≤◌, List, [], ◌∷◌, ◌++◌, Option, Some, None, unwrap_or}
use Rattle.byteorder.specs.Endian.{little_bytes}
use Rattle.sock_diag_records.specs.declared.constants.TheConstants.{AF_UNSPEC}
use Rattle.std.specs.declared.net.ip_addr.IpAddr.{IpAddr}
use Rattle.sock_diag_filters.specs.declared.codes.TheConstants as codes
use Rattle.sock_diag_filters.specs.declared.condition.Comparison.{Comparison}
use Rattle.sock_diag_filters.specs.declared.condition.Comparison.TheVariants.{AtLeast, AtMost}
use Rattle.sock_diag_filters.specs.declared.condition.Comparison.TheVariants.{Equal}
use Rattle.sock_diag_filters.specs.declared.condition.Prefix.{Prefix}
use Rattle.sock_diag_filters.specs.declared.condition.Host.{Host}
use Rattle.sock_diag_filters.specs.declared.condition.Condition.{Condition}
use Rattle.sock_diag_filters.specs.declared.condition.Condition.TheVariants as conditions
use Rattle.sock_diag_filters.specs.Prefixes.{bits_of, family_of, octets_of, port_bytes}

-- `IsNewPrefix result address bits`: `result` is what `Prefix::new` returns for `address` and
-- `bits`: the prefix with this address and this number of bits. It is `None` only if the address
-- does not have this many bits. A `Prefix` never has more bits than its address.
abbrev pub IsNewPrefix : Option Prefix → IpAddr → ℕ → Type 0
IsNewPrefix (Some prefix) address bits = (prefix.address ≡ address) × (prefix.bits ≡ bits)
IsNewPrefix None address bits = bits ≤ bits_of address → ⊥

-- The code of a comparison of the local port.
abbrev pub source_code : Comparison → ℕ
source_code AtLeast = codes.INET_DIAG_BC_S_GE
source_code AtMost = codes.INET_DIAG_BC_S_LE
source_code Equal = codes.INET_DIAG_BC_S_EQ

-- The code of a comparison of the remote port.
abbrev pub destination_code : Comparison → ℕ
destination_code AtLeast = codes.INET_DIAG_BC_D_GE
destination_code AtMost = codes.INET_DIAG_BC_D_LE
destination_code Equal = codes.INET_DIAG_BC_D_EQ

-- The code of a condition's operation: INET_DIAG_BC_..
abbrev pub code_of : Condition → ℕ
code_of (conditions.SourcePort comparison port) = source_code comparison
code_of (conditions.DestinationPort comparison port) = destination_code comparison
code_of (conditions.Source host) = codes.INET_DIAG_BC_S_COND
code_of (conditions.Destination host) = codes.INET_DIAG_BC_D_COND
code_of (conditions.Interface number) = codes.INET_DIAG_BC_DEV_COND
code_of (conditions.Mark mark mask) = codes.INET_DIAG_BC_MARK_COND
code_of (conditions.Cgroup number) = codes.INET_DIAG_BC_CGROUP_COND
code_of conditions.AutoBound = codes.INET_DIAG_BC_AUTO

-- The first four bytes of a `struct inet_diag_hostcond`: `family`, `prefix_len` and two bytes of
-- padding. Without a prefix, the family is 0 (AF_UNSPEC) and `prefix_len` 0.
abbrev pub host_family_bytes : Option Prefix → List ℕ
host_family_bytes None = AF_UNSPEC ∷ 0 ∷ 0 ∷ 0 ∷ []
host_family_bytes (Some prefix) = family_of prefix.address ∷ prefix.bits ∷ 0 ∷ 0 ∷ []

-- The bytes of `addr` of a `struct inet_diag_hostcond`: the octets of the address, if there is one.
abbrev pub host_address_bytes : Option Prefix → List ℕ
host_address_bytes None = []
host_address_bytes (Some prefix) = octets_of prefix.address

-- The bytes of a `struct inet_diag_hostcond`: `family`, `prefix_len` and padding; `port` as a
-- little-endian number of 32 bits, which is -1 (0xffffffff) without a port; and `addr`.
abbrev pub host_bytes : Host → List ℕ
host_bytes host =
    host_family_bytes host.prefix ++ (little_bytes 4 (unwrap_or host.port 0xffffffff)
    ++ host_address_bytes host.prefix)

-- The arguments of a condition's operation: the bytes after its `struct inet_diag_bc_op` of four
-- bytes. For a port they are a second `struct inet_diag_bc_op`, for a host a
-- `struct inet_diag_hostcond`, for an interface its index as a u32, for a mark a
-- `struct inet_diag_markcond`, and for a control group its id as a u64. Numbers are little-endian,
-- and the address of a host is in network byte order.
abbrev pub arguments : Condition → List ℕ
arguments (conditions.SourcePort comparison port) = port_bytes port
arguments (conditions.DestinationPort comparison port) = port_bytes port
arguments (conditions.Source host) = host_bytes host
arguments (conditions.Destination host) = host_bytes host
arguments (conditions.Interface number) = little_bytes 4 number
arguments (conditions.Mark mark mask) = little_bytes 4 mark ++ little_bytes 4 mask
arguments (conditions.Cgroup number) = little_bytes 8 number
arguments conditions.AutoBound = []
