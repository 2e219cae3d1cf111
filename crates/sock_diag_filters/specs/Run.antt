-- The kernel's run of a program on a socket: `inet_diag_bc_run` of net/ipv4/inet_diag.c. `left` are
-- the bytes of the program from the current operation on. At the start of a run they are the whole
-- program.
use Rattle.std.specs.Prelude.{◌≡◌, ℕ, ◌-◌, ◌<◌, ◌≤◌, ◌==◌, if◌then◌else◌, Bool, true, false, List}
use Rattle.std.specs.Prelude.{length, take, drop}
use Rattle.sock_diag_filters.specs.Audit.{code_at, no_at, yes_at}
use Rattle.sock_diag_filters.specs.declared.codes.TheConstants.{INET_DIAG_BC_JMP, INET_DIAG_BC_NOP}
use Rattle.sock_diag_filters.specs.declared.codes.TheConstants.{OPERATION_HEADER_LEN}

-- `arguments_at left`: the arguments of the operation at the start of `left`: the bytes after its
-- `struct inet_diag_bc_op` of four bytes, up to the distance `yes`.
abbrev pub arguments_at : List ℕ → List ℕ
arguments_at left = take (yes_at left - OPERATION_HEADER_LEN) (drop OPERATION_HEADER_LEN left)

-- `condition_met code arguments` is whether the socket meets the condition of an operation with
-- this code and these arguments, other than NOP and JMP, whose conditions are always and never met.
-- It is the first argument of each definition below. Among themselves they do not write it.
module _ (condition_met : ℕ → List ℕ → Bool) where
  -- `is_met condition_met left`: the condition of the operation at the start of `left` is met.
  abbrev pub is_met : List ℕ → Bool
  is_met left =
      if code_at left == INET_DIAG_BC_NOP then true
      else if code_at left == INET_DIAG_BC_JMP then false
      else condition_met (code_at left) (arguments_at left)

  -- `distance_to_next condition_met left`: the distance in bytes from the operation at the start of
  -- `left` to the next one: `yes` if the condition is met, `no` if not.
  abbrev pub distance_to_next : List ℕ → ℕ
  distance_to_next left = if is_met left then yes_at left else no_at left

  -- `Runs condition_met left verdict`: the run from the operation at the start of `left` has this
  -- verdict: `true` if the socket is selected. A run has at most one verdict. A run in which a step
  -- has the distance 0 has none; in a program that passes the audit, each step has at least 4
  -- bytes.
  pub data Runs : List ℕ → Bool → Type 0 where
    -- at the end of the program, the socket is selected
    ends : (left : List ℕ) → length left ≡ 0 → Runs left true
    -- a step past the end of the program rejects the socket
    goes_past : (left : List ℕ) → 0 < length left → length left < distance_to_next left
        → Runs left false
    -- after any other step, the run continues at the operation that the step leads to
    goes_on : (left : List ℕ) (verdict : Bool) → 0 < length left
        → distance_to_next left ≤ length left
        → Runs (drop (distance_to_next left) left) verdict → Runs left verdict
