-- The program of a filter.
use Rattle.std.specs.Prelude.{◌≡◌, ℕ, List, Bool, length}
use Rattle.sock_diag_filters.specs.declared.filter.Filter.{Filter}
use Rattle.sock_diag_filters.specs.Audit.{IsAudited}
use Rattle.sock_diag_filters.specs.Conditions.{arguments, code_of}
use Rattle.sock_diag_filters.specs.Filters.{meaning, program_size}
use Rattle.sock_diag_filters.specs.Run.{Runs}
use Rattle.sock_diag_filters.specs.Sockets.{Socket, kernel_evaluates, meets}

-- `IsProgram filter program`: what `assemble` states of the program of the filter.
pub record IsProgram (filter : Filter) (program : List ℕ) : Type 0 where
  -- it has the length that `program_size` states
  pub size : length program ≡ program_size filter
  -- the kernel accepts it
  pub audited : IsAudited program
  -- a run of it selects a socket if and only if the filter does, for all results of its conditions
  pub runs : (condition_met : ℕ → List ℕ → Bool) → Runs condition_met program
      (meaning (λ c. condition_met (code_of c) (arguments c)) filter)
  -- with the results of the kernel it selects the sockets that meet the filter
  pub selects : (socket : Socket) → Runs (kernel_evaluates socket) program
      (meaning (meets socket) filter)
