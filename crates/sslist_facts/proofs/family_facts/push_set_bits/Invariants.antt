use Rattle.std.proofs.Common.{◌≡◌, ◌++◌, drop, flat_map}
use Rattle.sslist_facts.specs.FamilyFacts.{group_of_bit}
use Rattle.sslist_facts.proofs.family_facts.push_set_bits.Given as goal

-- the groups so far, followed by those of the remaining bits, are the groups at the end
abbrev pub invariant-loop-bit : goal.invariant-loop-bit
invariant-loop-bit l =
    l.groups.items ++ flat_map (group_of_bit l.first l.byte) (drop l.bit-index l.rows)
    ≡ l.fn.groups.items ++ flat_map (group_of_bit l.first l.byte) l.rows
