-- The kernel's evaluation of an operation on a socket, and the meaning of conditions.
use Rattle.std.specs.Prelude.{ℕ, ◌-◌, ◌*◌, ◌/◌, ◌^◌, ◌<◌, ◌==◌, ◌&&◌, ◌||◌, nat_le, if◌then◌else◌}
use Rattle.std.specs.Prelude.{⊤, Bool, true, false, List, length, drop, slice_index, bit_and}
use Rattle.std.specs.Prelude.{Option, Some, None}
use Rattle.byteorder.specs.Endian.{big_number, little_number}
use Rattle.std.specs.declared.net.ip_addr.IpAddr.{IpAddr}
use Rattle.std.specs.declared.net.ip_addr.IpAddr.TheVariants.{V4, V6}
use Rattle.sock_diag_records.specs.declared.constants.TheConstants.{AF_INET, AF_INET6, AF_UNSPEC}
use Rattle.sock_diag_filters.specs.declared.codes.TheConstants as codes
use Rattle.sock_diag_filters.specs.declared.condition.Comparison.{Comparison}
use Rattle.sock_diag_filters.specs.declared.condition.Comparison.TheVariants.{AtLeast, AtMost}
use Rattle.sock_diag_filters.specs.declared.condition.Comparison.TheVariants.{Equal}
use Rattle.sock_diag_filters.specs.declared.condition.Prefix.{Prefix}
use Rattle.sock_diag_filters.specs.declared.condition.Host.{Host}
use Rattle.sock_diag_filters.specs.declared.condition.Condition.{Condition}
use Rattle.sock_diag_filters.specs.declared.condition.Condition.TheVariants as conditions
use Rattle.sock_diag_filters.specs.declared.filter.Filter.{Filter}
use Rattle.sock_diag_filters.specs.declared.filter.Filter.TheVariants as parts
use Rattle.sock_diag_filters.specs.Prefixes.{octets_of}

-- One end of a socket.
pub record SocketEnd : Type 0 where
  -- `family` of the socket: AF_INET or AF_INET6
  pub family : ℕ
  -- `sport` or `dport`, as a number
  pub port : ℕ
  -- `saddr` or `daddr`: the octets of the address in network byte order
  pub octets : List ℕ

-- A socket, as `struct inet_diag_entry` of the kernel's include/linux/inet_diag.h describes it.
pub record Socket : Type 0 where
  -- the local end
  pub source : SocketEnd
  -- the remote end
  pub destination : SocketEnd
  -- `ifindex`, the index of the interface that the socket is bound to
  pub interface : ℕ
  -- `mark`
  pub mark : ℕ
  -- `cgroup_id`
  pub cgroup : ℕ
  -- `userlocks` lacks SOCK_BINDPORT_LOCK: the socket itself was not bound to its local port by
  -- bind(2). The kernel chose the port, or a listening socket accepted the socket. A socket in
  -- TIME_WAIT counts as such a socket, whatever its port.
  pub is_auto_bound : Bool

-- `have_equal_prefix bits octets others`: the first `bits` bits of `octets` and `others` are equal,
-- as in the kernel's `bitstring_match`. Both are read as big-endian numbers of the length of
-- `others`, and divided by 2 to the power of the number of bits after the prefix.
-- For example, 10.1.16.5 and 10.1.31.9 have the same first 20 bits: their numbers, 0x0a011005 and
-- 0x0a011f09, divided by 2 ^ 12, are both 0x0a011.
abbrev pub have_equal_prefix : ℕ → List ℕ → List ℕ → Bool
have_equal_prefix bits octets others =
    let divisor = 2 ^ (8 * length others - bits) in
    (big_number (length others) octets / divisor) == (big_number (length others) others / divisor)

-- The octets are an IPv4-mapped IPv6 address, ::ffff:a.b.c.d: the first 12 octets are ten times 0,
-- then 255 and 255, which is 0xffff as a big-endian number.
abbrev pub is_ipv4_mapped : List ℕ → Bool
is_ipv4_mapped octets = big_number 12 octets == 0xffff

-- ---- conditions as `inet_diag_bc_run` of the kernel's net/ipv4/inet_diag.c evaluates them

-- The port in the arguments of a port comparison. The arguments are a second
-- `struct inet_diag_bc_op`, whose `no` (offset 2) is the port.
abbrev pub compared_port : List ℕ → ℕ
compared_port args = little_number 2 (drop 2 args)

-- A `struct inet_diag_hostcond`: `family`, `prefix_len` (here `bits`), `port`, and the bytes of
-- `addr` (here `octets`).
pub record HostCondition : Type 0 where
  pub family : ℕ
  pub bits : ℕ
  pub port : ℕ
  pub octets : List ℕ

-- The `struct inet_diag_hostcond` in the arguments of S_COND or D_COND: `family` at 0, `prefix_len`
-- at 1, `port` at 4 as 32 bits, `addr` at 8.
abbrev pub host_condition : List ℕ → HostCondition
host_condition args = record {
  family = slice_index args 0;
  bits = slice_index args 1;
  port = little_number 4 (drop 4 args);
  octets = drop 8 args;
}

-- `kernel_matches_address end host`: the address of this end of a socket starts with the first
-- `host.bits` bits of the address of the condition. A condition of the family AF_UNSPEC matches
-- sockets of each family. A condition of AF_INET also matches an IPv4-mapped address of a socket of
-- AF_INET6, by its last four octets.
abbrev pub kernel_matches_address : SocketEnd → HostCondition → Bool
kernel_matches_address end host =
    if host.family == AF_UNSPEC || host.family == end.family
    then host.bits == 0 || have_equal_prefix host.bits end.octets host.octets
    else
    host.family == AF_INET
    && (end.family == AF_INET6
    && (is_ipv4_mapped end.octets
    && have_equal_prefix host.bits (drop 12 end.octets) host.octets))

-- `kernel_matches_host end host`: the port and the address of this end of a socket match the
-- condition. The port -1 of the condition (0xffffffff) matches each port.
abbrev pub kernel_matches_host : SocketEnd → HostCondition → Bool
kernel_matches_host end host =
    (host.port == 0xffffffff || host.port == end.port) && kernel_matches_address end host

-- `kernel_evaluates s code args`: whether the kernel finds that the socket `s` meets the condition
-- of an operation with this code (INET_DIAG_BC_..) and these arguments: a port, a host condition,
-- an interface (u32), a mark (`struct inet_diag_markcond`: `mark` at 0, `mask` at 4), or a control
-- group (u64). Other codes count as met. NOP (0) and JMP (1) do not get here: `is_met` of
-- `Run.antt` evaluates them.
abbrev pub kernel_evaluates : Socket → ℕ → List ℕ → Bool
kernel_evaluates s code args =
    if code == codes.INET_DIAG_BC_S_GE then nat_le (compared_port args) s.source.port
    else if code == codes.INET_DIAG_BC_S_LE then nat_le s.source.port (compared_port args)
    else if code == codes.INET_DIAG_BC_D_GE
    then nat_le (compared_port args) s.destination.port
    else if code == codes.INET_DIAG_BC_D_LE
    then nat_le s.destination.port (compared_port args)
    else if code == codes.INET_DIAG_BC_AUTO then s.is_auto_bound
    else if code == codes.INET_DIAG_BC_S_COND
    then kernel_matches_host s.source (host_condition args)
    else if code == codes.INET_DIAG_BC_D_COND
    then kernel_matches_host s.destination (host_condition args)
    else if code == codes.INET_DIAG_BC_DEV_COND then s.interface == little_number 4 args
    else if code == codes.INET_DIAG_BC_MARK_COND
    then bit_and s.mark (little_number 4 (drop 4 args)) == little_number 4 args
    else if code == codes.INET_DIAG_BC_S_EQ then s.source.port == compared_port args
    else if code == codes.INET_DIAG_BC_D_EQ then s.destination.port == compared_port args
    else if code == codes.INET_DIAG_BC_CGROUP_COND then s.cgroup == little_number 8 args
    else true

-- ---- the meaning of conditions

-- `compares comparison port number`: the port is at least, at most, or equal to the number.
abbrev pub compares : Comparison → ℕ → ℕ → Bool
compares AtLeast port number = nat_le number port
compares AtMost port number = nat_le port number
compares Equal port number = port == number

-- `has_port required port`: the port is the one that a condition requires. `required` is `None` if
-- the condition requires none, and then each port matches.
abbrev pub has_port : Option ℕ → ℕ → Bool
has_port None port = true
has_port (Some required) port = required == port

-- `address_has_prefix address bits end`: the address of this end of a socket starts with the first
-- `bits` bits of `address`. An IPv4 `address` is also compared with the last four octets of an
-- IPv4-mapped IPv6 address. Other pairs of families do not match. 0 bits are a prefix of each
-- address of the same family, as in the kernel, which compares none.
abbrev pub address_has_prefix : IpAddr → ℕ → SocketEnd → Bool
address_has_prefix (V4 ip) bits end =
    if AF_INET == end.family
    then bits == 0 || have_equal_prefix bits end.octets (octets_of (V4 ip))
    else end.family == AF_INET6
    && (is_ipv4_mapped end.octets
    && have_equal_prefix bits (drop 12 end.octets) (octets_of (V4 ip)))
address_has_prefix (V6 ip) bits end =
    if AF_INET6 == end.family
    then bits == 0 || have_equal_prefix bits end.octets (octets_of (V6 ip))
    else false

-- `address_has_optional_prefix prefix end`: the address of this end of a socket has the prefix.
-- True if there is no prefix (`None`).
abbrev pub address_has_optional_prefix : Option Prefix → SocketEnd → Bool
address_has_optional_prefix None end = true
address_has_optional_prefix (Some prefix) end =
    address_has_prefix prefix.address prefix.bits end

-- `meets_host host end`: the port and the address of this end of a socket meet the condition.
abbrev pub meets_host : Host → SocketEnd → Bool
meets_host host end =
    has_port host.port end.port && address_has_optional_prefix host.prefix end

-- `meets s condition`: the socket `s` meets the condition. `Mark mark mask`: the bits of the
-- socket's mark that are in `mask` are equal to `mark`. `AutoBound`: the member `is_auto_bound` of
-- the socket.
abbrev pub meets : Socket → Condition → Bool
meets s (conditions.SourcePort comparison port) = compares comparison s.source.port port
meets s (conditions.DestinationPort comparison port) = compares comparison s.destination.port port
meets s (conditions.Source host) = meets_host host s.source
meets s (conditions.Destination host) = meets_host host s.destination
meets s (conditions.Interface number) = s.interface == number
meets s (conditions.Mark mark mask) = bit_and s.mark mask == mark
meets s (conditions.Cgroup number) = s.cgroup == number
meets s conditions.AutoBound = s.is_auto_bound

-- ---- ranges of the numbers of a condition, as the Rust types have them

-- `IsPort port`: the port of a condition, if it has one, fits 16 bits.
abbrev pub IsPort : Option ℕ → Type 0
IsPort None = ⊤
IsPort (Some port) = port < 2 ^ 16

-- Each number of a condition fits its Rust type. Of a host this is stated of the port only; its
-- prefix has a range of its own (`Prefix`).
abbrev pub IsConditionInRange : Condition → Type 0
IsConditionInRange (conditions.SourcePort comparison port) = port < 2 ^ 16
IsConditionInRange (conditions.DestinationPort comparison port) = port < 2 ^ 16
IsConditionInRange (conditions.Source host) = IsPort host.port
IsConditionInRange (conditions.Destination host) = IsPort host.port
IsConditionInRange (conditions.Interface number) = number < 2 ^ 32
IsConditionInRange (conditions.Mark mark mask) = (mark < 2 ^ 32) × (mask < 2 ^ 32)
IsConditionInRange (conditions.Cgroup number) = number < 2 ^ 64
IsConditionInRange conditions.AutoBound = ⊤

-- Each number of each condition of a filter fits its Rust type.
abbrev pub AreConditionsInRange : Filter → Type 0
AreConditionsInRange (parts.Condition condition) = IsConditionInRange condition
AreConditionsInRange (parts.And' p first q second) =
    AreConditionsInRange first × AreConditionsInRange second
AreConditionsInRange (parts.Or' p first q second) =
    AreConditionsInRange first × AreConditionsInRange second
AreConditionsInRange (parts.Not' p filter) = AreConditionsInRange filter
