use Rattle.std.proofs.Common.{◌≡◌, drop, map}
use Rattle.sslist_facts.specs.Rows.{numbered_row}
use Rattle.sslist_facts.specs.NumberNames.{name_in}
use Rattle.sslist_facts.proofs.number_names.name_in.Given as goal

-- the name in the first row of the number among the remaining ones is the one among all
abbrev pub invariant-loop-other : goal.invariant-loop-other
invariant-loop-other l = name_in (map numbered_row (drop l.other-index l.rows)) l.number
    ≡ name_in (map numbered_row l.rows) l.number
