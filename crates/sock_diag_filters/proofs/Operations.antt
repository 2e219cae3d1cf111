-- The parts and the lengths of operations and programs.
use Rattle.std.proofs.Common.{◌≡◌, ℕ, ◌+◌, ◌*◌, ◌-◌, ◌%◌, ◌≤◌, ◌⊎◌, List, [], ◌∷◌, ◌++◌, length}
use Rattle.std.proofs.Common.{drop, arith, Option, Some}
use Rattle.std.specs.Prelude.{slice_index, option_map}
use Rattle.std.proofs.lemmas.List.{drop_at, length-append}
use Rattle.byteorder.specs.Endian.{little_bytes}
use Rattle.netlink_core.proofs.Numbers.{little_endian, number-reads_back}
use Rattle.std.specs.declared.net.ip_addr.IpAddr.{IpAddr}
use Rattle.sock_diag_filters.specs.declared.condition.Prefix.{Prefix}
use Rattle.sock_diag_filters.specs.declared.condition.Condition.{Condition}
use Rattle.sock_diag_filters.specs.declared.filter.Filter.{Filter}
use Rattle.sock_diag_filters.specs.declared.filter.Filter.TheVariants as parts
use Rattle.sock_diag_filters.specs.Prefixes.{bits_of, family_of, octets_of}
use Rattle.sock_diag_filters.specs.Conditions.{arguments, code_of, host_family_bytes}
use Rattle.sock_diag_filters.specs.Conditions.{host_address_bytes}
use Rattle.sock_diag_filters.specs.Filters.{program_size}
use Rattle.sock_diag_filters.specs.Audit.{address_length, min_operation_length, no_at, yes_at}
use Rattle.sock_diag_filters.specs.private.Assembly.{operation, program_of}

-- ---- an operation followed by other bytes

pub operation_length : (code : ℕ) (args : List ℕ) (far : ℕ)
    → length (operation code args far) ≡ 4 + length args
operation_length code args far = omega arith

pub bytes_after_operation : (code : ℕ) (args : List ℕ) (far : ℕ) (rest : List ℕ)
    → drop (yes_at (operation code args far ++ rest)) (operation code args far ++ rest) ≡ rest
bytes_after_operation code args far rest =
    grind (
      arith,
      drop_at (operation code args far) rest (4 + length args)
          (operation_length code args far),
      operation code args far,
      operation_length code args far,
    )

pub no_of_operation : (code : ℕ) (args : List ℕ) (far : ℕ) (rest : List ℕ)
    → 4 + length args + far ≤ 65535
    → no_at (operation code args far ++ rest) ≡ 4 + length args + far
no_of_operation code args far rest near =
    grind (arith, number-reads_back little_endian 2 (4 + length args + far) (args ++ rest))

-- ---- conditions

-- The bytes of a `struct inet_diag_hostcond` with an address.
abbrev pub with_address : IpAddr → ℕ → ℕ → List ℕ
with_address a bits port =
    (family_of a ∷ bits ∷ 0 ∷ 0 ∷ []) ++ (little_bytes 4 port ++ octets_of a)

-- The bytes of a `struct inet_diag_hostcond` with or without an address.
abbrev pub host : Option Prefix → ℕ → List ℕ
host o port = host_family_bytes o ++ (little_bytes 4 port ++ host_address_bytes o)

address_in_fours : (a : IpAddr) (bits port : ℕ) → length (with_address a bits port) % 4 ≡ 0
address_in_fours a bits port =
    grind arith

address_least : (a : IpAddr) (code far bits port : ℕ) (rest : List ℕ)
    → option_map (λ (n : ℕ). 12 + n)
    (address_length (slice_index (operation code (with_address a bits port) far ++ rest) 4))
    ≡ Some (4 + length (with_address a bits port))
address_least a code far bits port rest =
    grind arith

address_bits : (a : IpAddr) (bits port : ℕ) → bits ≤ bits_of a
    → bits ≤ 8 * (4 + length (with_address a bits port) - 12)
address_bits a bits port h =
    grind arith

host_in_fours : (o : Option Prefix) (port : ℕ) → length (host o port) % 4 ≡ 0
host_in_fours o port =
    grind (arith, address_in_fours)

host_least : (o : Option Prefix) (code far port : ℕ) (rest : List ℕ)
    → option_map (λ (n : ℕ). 12 + n)
    (address_length (slice_index (operation code (host o port) far ++ rest) 4))
    ≡ Some (4 + length (host o port))
host_least o code far port rest =
    grind (arith, address_least)

host_bits : (o : Option Prefix) (code far port : ℕ) (rest : List ℕ)
    → slice_index (operation code (host o port) far ++ rest) 5
    ≤ 8 * (4 + length (host o port) - 12)
host_bits o code far port rest =
    grind (arith, address_bits)

-- The length of a condition's arguments is a multiple of 4.
pub arguments_length_multiple_of_4 : (c : Condition) → length (arguments c) % 4 ≡ 0
arguments_length_multiple_of_4 c =
    grind (arith, host_in_fours)

-- The kernel knows the operation of each condition, and its minimum length is the operation's
-- length.
pub condition_known : (c : Condition) (far : ℕ) (rest : List ℕ)
    → min_operation_length (operation (code_of c) (arguments c) far ++ rest)
    ≡ Some (4 + length (arguments c))
condition_known c far rest =
    grind (arith, host_least)

-- The prefix of a host condition does not have more bits than its address.
pub condition_bits : (c : Condition) (far : ℕ) (rest : List ℕ)
    → (code_of c ≡ 7) ⊎ (code_of c ≡ 8)
    → slice_index (operation (code_of c) (arguments c) far ++ rest) 5
    ≤ 8 * (4 + length (arguments c) - 12)
condition_bits c far rest h =
    grind (arith, host_bits)

-- ---- programs

pub program_length : (f : Filter) (far : ℕ) → length (program_of f far) ≡ program_size f
program_length (parts.Condition c) far = operation_length (code_of c) (arguments c) far
program_length (parts.And' p a q b) far =
    grind (
      arith,
      program_length a (program_size b + far),
      program_length b far,
      length-append (program_of a (program_size b + far)) (program_of b far),
      program_of a (program_size b + far),
      program_of b far,
    )
program_length (parts.Or' p a q b) far =
    grind (
      arith,
      program_length a 4,
      program_length b far,
      operation 1,
      program_of b far,
      length-append (program_of a 4),
      program_of a 4,
    )
program_length (parts.Not' p a) far =
    grind (
      arith,
      program_length a 4,
      length-append (program_of a 4) (operation 1 [] far),
      program_of a 4,
      operation 1,
    )

-- The length of a program is a multiple of 4.
pub program_size_multiple_of_4 : (f : Filter) → program_size f % 4 ≡ 0
program_size_multiple_of_4 (parts.Condition c) = let four = arguments_length_multiple_of_4 c in
    omega arith
program_size_multiple_of_4 (parts.And' p a q b) =
    grind (arith, program_size_multiple_of_4 a, program_size_multiple_of_4 b)
program_size_multiple_of_4 (parts.Or' p a q b) =
    grind (arith, program_size_multiple_of_4 a, program_size_multiple_of_4 b)
program_size_multiple_of_4 (parts.Not' p a) = let first = program_size_multiple_of_4 a in
    omega arith

-- A program has at least 4 bytes.
pub program_size_at_least_4 : (f : Filter) → 4 ≤ program_size f
program_size_at_least_4 (parts.And' p a q b) = let first = program_size_at_least_4 a in omega arith
program_size_at_least_4 f = grind arith
