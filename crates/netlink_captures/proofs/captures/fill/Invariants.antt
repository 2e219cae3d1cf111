use Rattle.std.proofs.Common.{◌≡◌, ◌≤◌, ◌-◌, length, take}
use Rattle.std.specs.Io.KnownBytes.{Consumes}
use Rattle.netlink_captures.proofs.captures.fill.Given as goal

-- the bytes that are filled so far are those that were read
abbrev pub invariant-reads : goal.invariant-reads
invariant-reads g l =
    (length l.bytes ≡ length l.initial.bytes) × (l.filled_len ≤ length l.bytes)
    × Consumes (g.R.Source.left l.initial.input) (g.R.Source.left l.input)
    (take l.filled_len l.bytes)

abbrev pub decreases-reads : goal.decreases-reads
decreases-reads g l = length l.bytes - l.filled_len
