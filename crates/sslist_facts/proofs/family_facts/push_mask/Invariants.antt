use Rattle.std.proofs.Common.{◌≡◌, ◌+◌, ◌*◌, ◌++◌, drop}
use Rattle.sslist_facts.specs.FamilyFacts.{groups_from}
use Rattle.sslist_facts.proofs.family_facts.push_mask.Given as goal

-- the groups so far, followed by those of the remaining bytes, are the groups at the end
abbrev pub invariant-loop-byte : goal.invariant-loop-byte
invariant-loop-byte l =
    (l.first ≡ 1 + 8 * l.byte-index)
    × (l.groups.items ++ groups_from l.first (drop l.byte-index l.mask)
    ≡ l.fn.groups.items ++ groups_from 1 l.mask)
