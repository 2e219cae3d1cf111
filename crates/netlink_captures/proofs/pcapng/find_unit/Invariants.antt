use Rattle.std.proofs.Common.{◌≡◌, length}
use Rattle.netlink_captures.specs.Pcapng.{unit_in}
use Rattle.netlink_captures.proofs.pcapng.find_unit.Given as goal

-- the unit in the remaining options is the one in all options
abbrev pub invariant-options : goal.invariant-options
invariant-options l =
    unit_in l.count l.order l.remaining ≡ unit_in (length l.fn.options) l.order l.fn.options

abbrev pub decreases-options : goal.decreases-options
decreases-options l = l.count
