use Rattle.std.proofs.Common.{◌≡◌, ◌++◌, ◌∷◌, [], decimal, drop, flat_map}
use Rattle.json.specs.Token.{number}
use Rattle.sslist_texts.proofs.json_writing.write_items.Given as goal

-- the text before the writer's is unchanged, and the tokens so far, followed by those of the
-- remaining numbers, are the tokens at the end
abbrev pub invariant-loop-value : goal.invariant-loop-value
invariant-loop-value l =
    (l.writer.before ≡ l.fn.writer.before) × (l.writer.tokens
    ++ flat_map (λ n. number (decimal n) ∷ []) (drop l.value-index l.numbers)
    ≡ l.fn.writer.tokens ++ flat_map (λ n. number (decimal n) ∷ []) l.numbers)
