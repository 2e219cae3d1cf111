-- The meaning of filters, and the length of their programs.
use Rattle.std.specs.Prelude.{ℕ, ◌+◌, Bool, ◌&&◌, ◌||◌, not, length}
use Rattle.sock_diag_filters.specs.declared.codes.TheConstants.{OPERATION_HEADER_LEN}
use Rattle.sock_diag_filters.specs.declared.condition.Condition.{Condition}
use Rattle.sock_diag_filters.specs.declared.filter.Filter.{Filter}
use Rattle.sock_diag_filters.specs.declared.filter.Filter.TheVariants as parts
use Rattle.sock_diag_filters.specs.Conditions.{arguments}

-- `meaning met filter`: whether the filter selects a socket, if `met` says which conditions the
-- socket meets. `And'`, `Or'` and `Not'` are the variants that borrow other filters. Their
-- arguments `p` and `q` belong to these references, and are not used.
abbrev pub meaning : (Condition → Bool) → Filter → Bool
meaning met (parts.Condition condition) = met condition
meaning met (parts.And' p first q second) = meaning met first && meaning met second
meaning met (parts.Or' p first q second) = meaning met first || meaning met second
meaning met (parts.Not' p filter) = not (meaning met filter)

-- The length of a filter's program in bytes. An operation has 4 bytes (`struct inet_diag_bc_op`)
-- and its arguments. A condition is one operation. `or` and `not` add one operation without
-- arguments, a jump; `and` adds none.
abbrev pub program_size : Filter → ℕ
program_size (parts.Condition condition) = OPERATION_HEADER_LEN + length (arguments condition)
program_size (parts.And' p first q second) = program_size first + program_size second
program_size (parts.Or' p first q second) =
    program_size first + OPERATION_HEADER_LEN + program_size second
program_size (parts.Not' p filter) = program_size filter + OPERATION_HEADER_LEN
