-- The kernel's check of a program before it runs it: `inet_diag_bc_audit` of net/ipv4/inet_diag.c.
-- `left` are the bytes of the program from some operation on. An operation starts with a
-- `struct inet_diag_bc_op` of linux/inet_diag.h: `code` at 0, `yes` at 1, and `no` at 2 as a
-- little-endian u16.
--
-- Two conditions of the kernel are not part of these definitions: it rejects MARK_COND without
-- CAP_NET_ADMIN, and CGROUP_COND if it is built without control groups.
use Rattle.std.specs.Prelude.{◌≡◌, ◌≢◌, ℕ, ◌+◌, ◌-◌, ◌*◌, ◌%◌, ◌<◌, ◌≤◌, ◌⊎◌, ◌==◌, if◌then◌else◌}
use Rattle.std.specs.Prelude.{List, [], ◌∷◌, length, drop, slice_index, slice_get, Option, Some}
use Rattle.std.specs.Prelude.{None, option_map}
use Rattle.byteorder.specs.Endian.{little_number}
use Rattle.sock_diag_filters.specs.declared.codes.TheConstants as codes
use Rattle.sock_diag_records.specs.declared.constants.TheConstants.{AF_INET, AF_INET6, AF_UNSPEC}

-- `code_at left`: `code` of the operation at the start of `left`: INET_DIAG_BC_..
abbrev pub code_at : List ℕ → ℕ
code_at left = slice_index left 0

-- `yes_at left`: `yes` of the operation at the start of `left`: the distance in bytes to the next
-- operation if the condition is met.
abbrev pub yes_at : List ℕ → ℕ
yes_at left = slice_index left 1

-- `no_at left`: `no` of the operation at the start of `left`: the distance in bytes to the next
-- operation if the condition is not met.
abbrev pub no_at : List ℕ → ℕ
no_at left = little_number 2 (drop 2 left)

-- `address_length family`: the length in bytes of an address of this family. AF_UNSPEC means that
-- there is no address. `None` if the kernel does not know the family.
abbrev pub address_length : ℕ → Option ℕ
address_length family =
    if family == AF_UNSPEC then Some 0
    else if family == AF_INET then Some 4
    else if family == AF_INET6 then Some 16
    else None

-- `host_operation_length left`: the minimum length of the operation S_COND or D_COND at the start
-- of `left`: 12 bytes, and the address. The 12 bytes are a `struct inet_diag_bc_op` (4) and a
-- `struct inet_diag_hostcond` up to its `addr` (8). The family of the address is the byte at 4.
-- `None` if the kernel does not know the family.
abbrev pub host_operation_length : List ℕ → Option ℕ
host_operation_length left = option_map (λ n. 12 + n) (address_length (slice_index left 4))

-- `min_operation_length left`: the minimum length in bytes of the operation at the start of `left`
-- (`min_len` in the kernel), or `None` if the kernel does not know its code or its address family.
-- NOP (0), JMP (1) and AUTO (6) have 4 bytes. Comparisons of ports (2 to 5, 11, 12) and DEV_COND
-- (9) have 8. MARK_COND (10) and CGROUP_COND (13) have 12. S_COND (7) and D_COND (8) have 12 and an
-- address, whose family is the byte at 4. The list has an entry for each code from 0 to 13; its
-- zeros for 7 and 8 are not used.
abbrev pub min_operation_length : List ℕ → Option ℕ
min_operation_length left =
    if code_at left == codes.INET_DIAG_BC_S_COND then host_operation_length left
    else if code_at left == codes.INET_DIAG_BC_D_COND then host_operation_length left
    else slice_get (4 ∷ 4 ∷ 8 ∷ 8 ∷ 8 ∷ 8 ∷ 4 ∷ 0 ∷ 0 ∷ 8 ∷ 12 ∷ 8 ∷ 8 ∷ 12 ∷ []) (code_at left)

-- `Steps left later`: stepping over zero or more operations by their `yes` leads from `left` to
-- `later`, as in the kernel's `valid_cc`. The `yes` of each operation is at least 4, is a multiple
-- of 4, and does not lead past the end.
pub data Steps : List ℕ → List ℕ → Type 0 where
  there : (left : List ℕ) → Steps left left
  over : (left later : List ℕ) → 4 ≤ yes_at left → yes_at left % 4 ≡ 0
      → yes_at left ≤ length left → Steps (drop (yes_at left) left) later → Steps left later

-- `IsReachable program n`: stepping over operations from the start of the program leads to the
-- position where `n` bytes are left.
abbrev pub IsReachable : List ℕ → ℕ → Type 0
IsReachable program n = (later : List ℕ) × Steps program later × (length later ≡ n)

-- `IsOperationAudited program left`: the operation at the start of `left` passes the checks of the
-- kernel. `left` are the bytes of the program from this operation on.
pub record IsOperationAudited (program left : List ℕ) : Type 0 where
  -- the kernel knows its code; `left` has at least its minimum length, which is `least`
  pub least : ℕ
  pub known : min_operation_length left ≡ Some least
  pub whole : least ≤ length left
  -- only for S_COND and D_COND: `prefix_len`, the byte at 5, is at most the length of the address
  -- in bits; the address are the bytes from 12 on
  pub bits : (code_at left ≡ codes.INET_DIAG_BC_S_COND)
      ⊎ (code_at left ≡ codes.INET_DIAG_BC_D_COND) → slice_index left 5 ≤ 8 * (least - 12)
  -- except for NOP, whose `no` is not checked: `no` is at least the minimum length, leads at most 4
  -- bytes past the end of the program, and is a multiple of 4; if it leads to a position before the
  -- end, that position is reachable
  pub past_it : code_at left ≢ codes.INET_DIAG_BC_NOP → least ≤ no_at left
  pub within : code_at left ≢ codes.INET_DIAG_BC_NOP → no_at left ≤ length left + 4
  pub in_fours : code_at left ≢ codes.INET_DIAG_BC_NOP → no_at left % 4 ≡ 0
  pub lands : code_at left ≢ codes.INET_DIAG_BC_NOP → no_at left < length left
      → IsReachable program (length left - no_at left)
  -- `yes` is at least the minimum length, does not lead past the end, and is a multiple of 4
  pub steps_past : least ≤ yes_at left
  pub steps_within : yes_at left ≤ length left
  pub steps_in_fours : yes_at left % 4 ≡ 0

-- `AllOperationsPass program left`: each operation from `left` on passes the checks, stepping by
-- their `yes` up to the end.
pub data AllOperationsPass (program : List ℕ) : List ℕ → Type 0 where
  at_end : AllOperationsPass program []
  on : (left : List ℕ) → IsOperationAudited program left
      → AllOperationsPass program (drop (yes_at left) left)
      → AllOperationsPass program left

-- `IsAudited program`: the kernel accepts the program: it has at least the 4 bytes of a
-- `struct inet_diag_bc_op`, and each of its operations passes the checks.
abbrev pub IsAudited : List ℕ → Type 0
IsAudited program =
    (codes.OPERATION_HEADER_LEN ≤ length program) × AllOperationsPass program program
