use Rattle.std.proofs.Common.{◌≡◌, ◌++◌, drop, flat_map}
use Rattle.sslist_lister.specs.Collected.{slot_value}
use Rattle.sslist_lister.specs.JsonAttributes.{valid_members}
use Rattle.sslist_texts.specs.JsonWriting.{members_tokens}
use Rattle.sslist_lister.proofs.json_attributes.write_valid.Given as goal

-- the text before the writer's is unchanged, and the tokens so far, followed by those of the
-- remaining attributes, are the tokens at the end
abbrev pub invariant-loop-slot : goal.invariant-loop-slot
invariant-loop-slot l =
    (l.writer.before ≡ l.fn.writer.before) × (l.writer.tokens
    ++ flat_map (λ slot. members_tokens (valid_members l.sockets (slot_value slot)))
    (drop l.slot-index l.slots)
    ≡ l.fn.writer.tokens
    ++ flat_map (λ slot. members_tokens (valid_members l.sockets (slot_value slot))) l.slots)
