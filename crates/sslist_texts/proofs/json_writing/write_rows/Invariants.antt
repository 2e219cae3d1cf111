use Rattle.std.proofs.Common.{◌≡◌, ◌++◌, ◌∷◌, [], decimal, drop, flat_map}
use Rattle.json.specs.Token.{key, number}
use Rattle.sslist_texts.proofs.json_writing.write_rows.Given as goal

-- the text before the writer's is unchanged, and the tokens so far, followed by those of the
-- remaining rows, are the tokens at the end
abbrev pub invariant-loop-name : goal.invariant-loop-name
invariant-loop-name l =
    (l.writer.before ≡ l.fn.writer.before) × (l.writer.tokens
    ++ flat_map (λ row. key row.0.now ∷ number (decimal row.1) ∷ []) (drop l.name-index l.rows)
    ≡ l.fn.writer.tokens
    ++ flat_map (λ row. key row.0.now ∷ number (decimal row.1) ∷ []) l.rows)
