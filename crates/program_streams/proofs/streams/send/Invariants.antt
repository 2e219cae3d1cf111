use Rattle.std.proofs.Common.{◌≡◌, List, ℕ, ◌++◌, length}
use Rattle.std.specs.Io.KnownBytes.{Appends}
use Rattle.program_streams.proofs.streams.send.Given as goal

-- `sent` has been written, and `unsent` follows it
abbrev pub invariant-writes : goal.invariant-writes
invariant-writes g l = (sent : List ℕ) × (l.fn.bytes ≡ sent ++ l.unsent)
    × Appends (g.W.Sink.held l.fn.output) (g.W.Sink.held l.output) sent

abbrev pub decreases-writes : goal.decreases-writes
decreases-writes g l = length l.unsent
