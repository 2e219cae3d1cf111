use Rattle.std.proofs.Common.{◌≡◌, drop, map}
use Rattle.sock_diag_filters.specs.Rows.{named_row, value_named}
use Rattle.sock_diag_filters.proofs.text.lookup.value_named.Given as goal

-- the first row with the word among the remaining ones is the first among all
abbrev pub invariant-loop-other : goal.invariant-loop-other
invariant-loop-other g l = value_named (map named_row (drop l.other-index l.rows)) l.word
    ≡ value_named (map named_row l.rows) l.word
