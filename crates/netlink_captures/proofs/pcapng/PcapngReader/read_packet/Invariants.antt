use Rattle.std.proofs.Common.{◌-◌, ◌^◌, ℕ, List}
use Rattle.std.specs.List.{concat}
use Rattle.std.specs.Io.KnownBytes.{Consumes}
use Rattle.netlink_captures.specs.Pcapng.{AreSkipped, position_of}
use Rattle.netlink_captures.proofs.pcapng.PcapngReader.read_packet.Given as goal

-- blocks without a packet were read so far
abbrev pub invariant-steps : goal.invariant-steps
invariant-steps g l =
    (blocks : List (List ℕ)) × AreSkipped (position_of l.fn.self) blocks (position_of l.self)
    × Consumes (g.R.Source.left l.fn.input) (g.R.Source.left l.input) (concat blocks)

abbrev pub decreases-steps : goal.decreases-steps
decreases-steps g l = 2 ^ 64 - l.self.offset
