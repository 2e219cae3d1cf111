use Rattle.std.proofs.Common.{◌≡◌, ◌++◌, drop, flat_map}
use Rattle.sslist_lister.specs.Collected.{slot_value}
use Rattle.sslist_lister.specs.Details.{valid_detail}
use Rattle.sslist_lister.proofs.details.push_valid.Given as goal

-- the text so far, followed by the remaining facts, is the text at the end
abbrev pub invariant-loop-slot : goal.invariant-loop-slot
invariant-loop-slot l =
    l.text.items ++ flat_map (λ slot. valid_detail l.options l.sockets (slot_value slot))
    (drop l.slot-index l.slots)
    ≡ l.fn.text.items ++ flat_map (λ slot. valid_detail l.options l.sockets (slot_value slot))
    l.slots
