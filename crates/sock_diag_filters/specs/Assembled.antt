-- The errors of assembling a filter.
use Rattle.std.specs.Prelude.{◌<◌, ◌≤◌}
use Rattle.sock_diag_filters.specs.declared.assembly.AssembleError.{AssembleError}
use Rattle.sock_diag_filters.specs.declared.assembly.AssembleError.TheVariants.{Memory, TooLong}
use Rattle.sock_diag_filters.specs.declared.assembly.TheConstants.{MAX_PROGRAM}
use Rattle.sock_diag_filters.specs.declared.filter.Filter.{Filter}
use Rattle.sock_diag_filters.specs.Filters.{program_size}

-- `IsAssembleError filter error`: assembling the filter may fail with this error: with `TooLong`
-- only if the program would have more than MAX_PROGRAM bytes (65,531), so that its length would not
-- fit the length field of an attribute; with `Memory` only if the program is not too long.
abbrev pub IsAssembleError : Filter → AssembleError → Type 0
IsAssembleError filter TooLong = MAX_PROGRAM < program_size filter
IsAssembleError filter Memory = program_size filter ≤ MAX_PROGRAM
