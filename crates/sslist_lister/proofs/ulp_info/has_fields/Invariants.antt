use Rattle.std.proofs.Common.{◌≡◌, drop, map}
use Rattle.sslist_lister.specs.UlpInfo.{has_fields, ulp_row_of}
use Rattle.sslist_lister.proofs.ulp_info.has_fields.Given as goal

-- whether the fields of the remaining rows are there decides for all rows
abbrev pub invariant-loop-field : goal.invariant-loop-field
invariant-loop-field l = has_fields l.bytes (map ulp_row_of (drop l.field-index l.rows))
    ≡ has_fields l.bytes (map ulp_row_of l.rows)
