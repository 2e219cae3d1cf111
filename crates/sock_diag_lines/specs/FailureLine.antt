-- The line on standard error that names a failure.
use Rattle.std.specs.Prelude.{ℕ, List, codes}
use Rattle.program_streams.specs.LineRun.{with_line_feed}
use Rattle.program_streams.specs.declared.lines.RunError.{RunError}
use Rattle.program_streams.specs.declared.lines.RunError.TheVariants.{Read, Write, Memory}

-- `failure_line failure`: the line on standard error that names the failure, with its line feed
abbrev pub failure_line : RunError → List ℕ
failure_line Read = with_line_feed (codes "sockdiag: reading failed")
failure_line Write = with_line_feed (codes "sockdiag: writing failed")
failure_line Memory = with_line_feed (codes "sockdiag: out of memory")
