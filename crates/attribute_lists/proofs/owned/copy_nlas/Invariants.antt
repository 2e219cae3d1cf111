use Rattle.std.proofs.Common.{◌≡◌, ◌≤◌, length, map, take, drop}
use Rattle.std.specs.List.{AllByRecursion}
use Rattle.netlink_core.specs.AttributeSet.{NeedsNoMemoryIn}
use Rattle.attribute_lists.proofs.owned.copy_nlas.Given as goal

-- the copy equals the attributes so far, and has capacity for all; if no attribute needs memory, no
-- remaining one does
abbrev pub invariant-loop-nla : goal.invariant-loop-nla
invariant-loop-nla g l =
    let spare = AllByRecursion (NeedsNoMemoryIn g.T.FamilyNla.attribute_set) in
    record {
      same : map g.T.FamilyNla.model l.copy.items
          ≡ map g.T.FamilyNla.model (take l.nla-index l.nlas);
      room : length l.nlas ≤ l.copy.capacity;
      spare : spare (map g.T.FamilyNla.model l.nlas)
          → spare (map g.T.FamilyNla.model (drop l.nla-index l.nlas));
    }
