use Rattle.std.proofs.Common.{◌≡◌, ◌++◌, drop, flat_map}
use Rattle.sslist_facts.specs.NumberNames.{flag_letter}
use Rattle.sslist_facts.proofs.number_names.push_letters.Given as goal

-- the text so far, followed by the remaining letters, is the text at the end
abbrev pub invariant-loop-bit : goal.invariant-loop-bit
invariant-loop-bit l = l.text.items ++ flat_map (flag_letter l.number) (drop l.bit-index l.rows)
    ≡ l.fn.text.items ++ flat_map (flag_letter l.number) l.rows
