use Rattle.std.proofs.Common.{◌≡◌, ◌++◌, drop, flat_map}
use Rattle.json.specs.Tree.{json_tokens}
use Rattle.sslist_lister.specs.Collected.{other_model}
use Rattle.sslist_lister.specs.JsonAttributes.{other_item}
use Rattle.sslist_lister.proofs.json_attributes.write_items.Given as goal

-- the text before the writer's is unchanged, and the tokens so far, followed by those of the
-- remaining attributes, are the tokens at the end
abbrev pub invariant-loop-nla : goal.invariant-loop-nla
invariant-loop-nla l =
    (l.writer.before ≡ l.fn.writer.before) × (l.writer.tokens
    ++ flat_map (λ other. json_tokens (other_item (other_model other))) (drop l.nla-index l.others)
    ≡ l.fn.writer.tokens
    ++ flat_map (λ other. json_tokens (other_item (other_model other))) l.others)
