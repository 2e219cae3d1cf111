-- Consecutive records in the value of an attribute.
use Rattle.std.specs.Prelude.{◌≡◌, ◌<◌, ◌≤◌, ℕ, List, length, drop, Option, MatchOption}
use Rattle.sock_diag_extras.specs.RecordTable.{RecordTable, parse_by_table}

-- `YieldsRecord layout left given later`: what a call of `next` does: `left` are the bytes left
-- before it, `given` is what it returns, and `later` are the bytes left after it. If fewer bytes
-- are left than a record has (`layout.size`), it returns None and leaves all of them. Otherwise it
-- returns the record at the start, and leaves the bytes after the record.
abbrev pub YieldsRecord : {Value : Type 0} → RecordTable Value → List ℕ → Option Value → List ℕ
    → Type 0
YieldsRecord layout left given later =
    MatchOption given ((length left < layout.size) × (later ≡ left))
    (λ value. (layout.size ≤ length left) × (value ≡ parse_by_table layout left)
    × (later ≡ drop layout.size left))
