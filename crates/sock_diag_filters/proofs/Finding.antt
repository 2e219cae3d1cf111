-- The kernel's evaluation of a condition's operation is whether the socket meets the condition.
use Rattle.std.proofs.Common.{◌≡◌, ℕ, ◌<◌, ◌^◌, List, [], ◌++◌, refl, ap, arith, Option, Some, None}
use Rattle.std.specs.Prelude.{◌||◌, ◌==◌, nat_le, not, drop, unwrap_or}
use Rattle.std.proofs.lemmas.Bool.{ne_eqb}
use Rattle.byteorder.specs.Endian.{little_bytes, little_number}
use Rattle.netlink_core.proofs.Numbers.{little_endian, number-reads_back}
use Rattle.std.specs.declared.net.ip_addr.IpAddr.{IpAddr}
use Rattle.std.specs.declared.net.ip_addr.IpAddr.TheVariants.{V4, V6}
use Rattle.sock_diag_filters.specs.declared.condition.Comparison.TheVariants.{AtLeast, AtMost}
use Rattle.sock_diag_filters.specs.declared.condition.Comparison.TheVariants.{Equal}
use Rattle.sock_diag_filters.specs.declared.condition.Prefix.{Prefix}
use Rattle.sock_diag_filters.specs.declared.condition.Host.{Host}
use Rattle.sock_diag_filters.specs.declared.condition.Condition.{Condition}
use Rattle.sock_diag_filters.specs.declared.condition.Condition.TheVariants as conditions
use Rattle.sock_diag_filters.specs.declared.filter.Filter.{Filter}
use Rattle.sock_diag_filters.specs.declared.filter.Filter.TheVariants as parts
use Rattle.sock_diag_filters.specs.Conditions.{arguments, code_of}
use Rattle.sock_diag_filters.specs.Prefixes.{octets_of}
use Rattle.sock_diag_filters.specs.Filters.{meaning}
use Rattle.sock_diag_filters.specs.Sockets.{AreConditionsInRange, IsConditionInRange, IsPort}
use Rattle.sock_diag_filters.specs.Sockets.{Socket}
use Rattle.sock_diag_filters.specs.Sockets.{SocketEnd, address_has_optional_prefix}
use Rattle.sock_diag_filters.specs.Sockets.{address_has_prefix, has_port, host_condition}
use Rattle.sock_diag_filters.specs.Sockets.{kernel_evaluates, kernel_matches_address}
use Rattle.sock_diag_filters.specs.Sockets.{kernel_matches_host, meets, meets_host}
use Rattle.sock_diag_filters.proofs.Operations.{host, with_address}

-- A number that fits `n` bytes round-trips through little-endian bytes.
little_endian_round_trips : (n x : ℕ) (rest : List ℕ) → x < 256 ^ n
    → little_number n (little_bytes n x ++ rest) ≡ x
little_endian_round_trips n x rest fits = number-reads_back little_endian n x rest fits

port_round_trips : (x : ℕ) → x < 2 ^ 16 → little_number 2 (little_bytes 2 x) ≡ x
port_round_trips x fits = little_endian_round_trips 2 x [] fits

u32_round_trips : (x : ℕ) → x < 2 ^ 32 → little_number 4 (little_bytes 4 x) ≡ x
u32_round_trips x fits = little_endian_round_trips 4 x [] fits

u64_round_trips : (x : ℕ) → x < 2 ^ 64 → little_number 8 (little_bytes 8 x) ≡ x
u64_round_trips x fits = little_endian_round_trips 8 x [] fits

-- ---- hosts

optional_port_is_u32 : (o : Option ℕ) → IsPort o → unwrap_or o 0xffffffff < 2 ^ 32
optional_port_is_u32 o h =
    grind arith

port_found : (o : Option ℕ) (port : ℕ) → IsPort o
    → ((unwrap_or o 0xffffffff == 0xffffffff) || (unwrap_or o 0xffffffff == port)) ≡ has_port o port
port_found o port h =
    grind (arith, ne_eqb)

address_found : (a : IpAddr) (bits port : ℕ) (end : SocketEnd)
    → kernel_matches_address end (host_condition (with_address a bits port))
    ≡ address_has_prefix a bits end
address_found (V4 ip) bits port end = refl
address_found (V6 ip) bits port end = refl

prefix_found : (o : Option Prefix) (port : ℕ) (end : SocketEnd)
    → kernel_matches_address end (host_condition (host o port))
    ≡ address_has_optional_prefix o end
prefix_found None port end = refl
prefix_found (Some p) port end = address_found p.address p.bits port end

port_at : (o : Option Prefix) (port : ℕ) → port < 2 ^ 32
    → little_number 4 (drop 4 (host o port)) ≡ port
port_at None port h = little_endian_round_trips 4 port [] h
port_at (Some p) port h = little_endian_round_trips 4 port (octets_of p.address) h

host_found : (h : Host) (end : SocketEnd) → IsPort h.port
    → kernel_matches_host end (host_condition (host h.prefix (unwrap_or h.port 0xffffffff)))
    ≡ meets_host h end
host_found h end range =
    let required : ℕ = unwrap_or h.port 0xffffffff in
    cc (
      port_at h.prefix required (optional_port_is_u32 h.port range),
      port_found h.port end.port range,
      prefix_found h.prefix required end,
    )

-- ---- conditions and filters

condition_found : (s : Socket) (c : Condition) → IsConditionInRange c
    → kernel_evaluates s (code_of c) (arguments c) ≡ meets s c
condition_found s (conditions.SourcePort AtLeast port) range =
    ap (λ (n : ℕ). nat_le n s.source.port) (port_round_trips port range)
condition_found s (conditions.SourcePort AtMost port) range =
    ap (λ (n : ℕ). nat_le s.source.port n) (port_round_trips port range)
condition_found s (conditions.SourcePort Equal port) range =
    ap (λ (n : ℕ). s.source.port == n) (port_round_trips port range)
condition_found s (conditions.DestinationPort AtLeast port) range =
    ap (λ (n : ℕ). nat_le n s.destination.port) (port_round_trips port range)
condition_found s (conditions.DestinationPort AtMost port) range =
    ap (λ (n : ℕ). nat_le s.destination.port n) (port_round_trips port range)
condition_found s (conditions.DestinationPort Equal port) range =
    ap (λ (n : ℕ). s.destination.port == n) (port_round_trips port range)
condition_found s (conditions.Source h) range = host_found h s.source range
condition_found s (conditions.Destination h) range = host_found h s.destination range
condition_found s (conditions.Interface number) range =
    ap (λ (n : ℕ). s.interface == n) (u32_round_trips number range)
condition_found s (conditions.Mark mark mask) range =
    cc (
      little_endian_round_trips 4 mark (little_bytes 4 mask) range.0,
      u32_round_trips mask range.1,
    )
condition_found s (conditions.Cgroup number) range =
    ap (λ (n : ℕ). s.cgroup == n) (u64_round_trips number range)
condition_found s conditions.AutoBound range = refl

pub evaluation_is_meaning : (s : Socket) (f : Filter) → AreConditionsInRange f
    → meaning (λ c. kernel_evaluates s (code_of c) (arguments c)) f ≡ meaning (meets s) f
evaluation_is_meaning s (parts.Condition c) range = condition_found s c range
evaluation_is_meaning s (parts.And' p a q b) range =
    grind (arith, evaluation_is_meaning s a range.0, evaluation_is_meaning s b range.1)
evaluation_is_meaning s (parts.Or' p a q b) range =
    grind (arith, evaluation_is_meaning s a range.0, evaluation_is_meaning s b range.1)
evaluation_is_meaning s (parts.Not' p a) range = ap not (evaluation_is_meaning s a range)
