use Rattle.std.proofs.Common.{◌≡◌, ◌++◌, ◌<◌, ℕ, None, flat_map, length, map, slice_index_or}
use Rattle.std.specs.Option.{option_or}
use Rattle.sock_diag_any.specs.AnyItems.{items_in, items_left}
use Rattle.sslist_lister.specs.Collected.{first_valid, other_in_item, other_model}
use Rattle.sslist_lister.specs.Collected.{slot_value}
use Rattle.sslist_lister.proofs.Slots.{framing_in}
use Rattle.sslist_lister.proofs.collected.Attributes.collect.Given as goal

-- what was found so far, or else in the remaining items, is what all items have
abbrev pub invariant-loop-item : goal.invariant-loop-item
invariant-loop-item l =
    (l.self.sockets ≡ l.fn.self.sockets) × (length l.self.first.slots ≡ 23) × ((k : ℕ) → k < 23
    → option_or (slot_value (slice_index_or l.self.first.slots k None))
    (first_valid (items_left l.item-iterator) k)
    ≡ first_valid (items_in l.fn.self.sockets l.bytes) k)
    × (map other_model l.self.others.items ++ flat_map other_in_item (items_left l.item-iterator)
    ≡ flat_map other_in_item (items_in l.fn.self.sockets l.bytes))
    × (option_or l.self.end (framing_in (items_left l.item-iterator))
    ≡ framing_in (items_in l.fn.self.sockets l.bytes))
