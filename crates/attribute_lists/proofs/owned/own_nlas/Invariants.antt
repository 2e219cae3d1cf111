use Rattle.std.proofs.Common.{◌≡◌, ◌≤◌, ◌+◌, ◌++◌, length, map}
use Rattle.std.specs.List.{AllByRecursion}
use Rattle.netlink_core.specs.Walk.{unread_bytes}
use Rattle.netlink_core.specs.AttributeSet.{decode_attribute, NeedsNoMemoryIn}
use Rattle.attribute_lists.specs.AttributesIn.{HasNoAttributeError, decoded_in}
use Rattle.attribute_lists.proofs.owned.own_nlas.Given as goal

-- the list so far and the remaining values are all values, and the list has capacity for all
abbrev pub invariant-loop-nla : goal.invariant-loop-nla
invariant-loop-nla g l =
    let parses = decode_attribute g.T.FamilyNla.attribute_set in
    let spare = AllByRecursion (NeedsNoMemoryIn g.T.FamilyNla.attribute_set) in
    let left = decoded_in parses (unread_bytes l.walk) in
    record {
      clean : HasNoAttributeError parses (unread_bytes l.walk);
      told : map g.T.FamilyNla.model l.nlas.items ++ left ≡ decoded_in parses l.bytes;
      room : length l.nlas.items + length left ≤ l.nlas.capacity;
      spare : spare (decoded_in parses l.bytes) → spare left;
    }

abbrev pub decreases-loop-nla : goal.decreases-loop-nla
decreases-loop-nla g l = length (decoded_in (decode_attribute g.T.FamilyNla.attribute_set)
    (unread_bytes l.walk))
