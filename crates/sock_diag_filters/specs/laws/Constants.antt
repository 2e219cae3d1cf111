-- The numbers of the constants that definitions name.
use Rattle.std.proofs.Common.{◌≡◌, refl}
use Rattle.sock_diag_filters.specs.declared.codes.TheConstants as c

-- the size of `struct inet_diag_bc_op`; `laws.rt` states the public constants
pub operation_header_length : c.OPERATION_HEADER_LEN ≡ 4
operation_header_length = refl
