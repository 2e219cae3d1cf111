use Rattle.std.proofs.Common.{◌≡◌, ◌++◌, decimal, drop}
use Rattle.sslist_facts.specs.Facts.{separated_records}
use Rattle.sslist_facts.proofs.facts.push_separated.Given as goal

-- the text so far, followed by the remaining numbers, is the text at the end
abbrev pub invariant-loop-number : goal.invariant-loop-number
invariant-loop-number l =
    l.text.items ++ separated_records decimal l.separator l.later (drop l.number-index l.numbers)
    ≡ l.fn.text.items ++ separated_records decimal l.before l.later l.numbers
