-- The program of a filter, as the assembler writes it.
use Rattle.std.specs.Prelude.{◌≡◌, ℕ, ◌+◌, ◌-◌, List, [], ◌∷◌, ◌++◌, length, take}
use Rattle.byteorder.specs.Endian.{little_bytes}
use Rattle.sock_diag_filters.specs.declared.codes.TheConstants.{INET_DIAG_BC_JMP}
use Rattle.sock_diag_filters.specs.declared.codes.TheConstants.{OPERATION_HEADER_LEN}
use Rattle.sock_diag_filters.specs.declared.filter.Filter.{Filter}
use Rattle.sock_diag_filters.specs.declared.filter.Filter.TheVariants as parts
use Rattle.sock_diag_filters.specs.Conditions.{arguments, code_of}
use Rattle.sock_diag_filters.specs.Filters.{program_size}

-- `operation_header_bytes code arguments_len far`: the `struct inet_diag_bc_op` of an operation
-- with this number of bytes of arguments: `code`; `yes`, its length; and `no` as a little-endian
-- u16. If its condition is not met, `no` leads to `far` bytes after its end.
abbrev pub operation_header_bytes : ℕ → ℕ → ℕ → List ℕ
operation_header_bytes code arguments_len far =
    code ∷ (OPERATION_HEADER_LEN + arguments_len)
    ∷ little_bytes 2 (OPERATION_HEADER_LEN + arguments_len + far)

-- `operation code arguments far`: the bytes of an operation: its `struct inet_diag_bc_op`, and its
-- arguments. If its condition is not met, `no` leads to `far` bytes after its end.
abbrev pub operation : ℕ → List ℕ → ℕ → List ℕ
operation code arguments far = operation_header_bytes code (length arguments) far ++ arguments

-- `jump far`: the bytes of an operation without arguments that jumps over the `far` bytes after it,
-- since its condition is never met.
abbrev pub jump : ℕ → List ℕ
jump far = operation INET_DIAG_BC_JMP [] far

-- `program_of filter far`: the program of the filter. For a socket that the filter selects, a run
-- reaches the end of the program; for any other socket, it reaches `far` bytes after the end. For
-- the program of a request `far` is 4: a step past its end rejects the socket.
-- - A condition is one operation.
-- - `And'` has the programs of both parts. A socket that the first part does not select is led over
--   the second part, and `far` bytes further.
-- - `Or'` has a jump over the second part between the programs of both parts. A socket that the
--   first part selects takes this jump. Any other socket skips the 4 bytes of the jump.
-- - `Not'` has a jump of `far` bytes after the program of the part. A socket that the part selects
--   takes this jump. Any other socket skips it, and so reaches the end.
abbrev pub program_of : Filter → ℕ → List ℕ
program_of (parts.Condition condition) far =
    operation (code_of condition) (arguments condition) far
program_of (parts.And' p first q second) far =
    program_of first (program_size second + far) ++ program_of second far
program_of (parts.Or' p first q second) far =
    program_of first OPERATION_HEADER_LEN
    ++ (jump (program_size second) ++ program_of second far)
program_of (parts.Not' p filter) far = program_of filter OPERATION_HEADER_LEN ++ jump far

-- `EndsWith old written new`: a buffer that contained `old` contains `new`: the bytes `written` at
-- its end, and before them what it contained before.
abbrev pub EndsWith : List ℕ → List ℕ → List ℕ → Type 0
EndsWith old written new = new ≡ take (length old - length written) old ++ written
