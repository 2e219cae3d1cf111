-- The fields that the rows of `src/tcp.rt` are about, for the law `rows_are_fields`.
use Rattle.std.specs.Prelude.{ℕ, ◌==◌, ◌&&◌, ◌++◌, Bool, List, filter, is_none, map}
use Rattle.std.specs.List.{dedup}
use Rattle.sock_diag_extras.specs.TcpFields.{first_fields, later_fields, tcp_bits_of}
use Rattle.sock_diag_extras.specs.declared.tcp_info.TcpField.{TcpField}
use Rattle.sslist_facts.specs.Tcp.{FieldRow}
use Rattle.sslist_facts.specs.declared.tcp.FieldPart.{FieldPart}
use Rattle.sslist_facts.specs.declared.tcp.FieldPart.TheVariants.{Eight, Four, Measured, Two}
use Rattle.sslist_facts.specs.declared.tcp.TheConstants.{TCP_METRIC_ROWS, TCP_RATE_ROWS}
use Rattle.sslist_facts.specs.declared.tcp.TheConstants.{TCP_STATE_ROWS}

-- the rows of `struct tcp_info`
abbrev pub tcp_rows : List FieldRow
tcp_rows = TCP_STATE_ROWS ++ TCP_METRIC_ROWS ++ TCP_RATE_ROWS

-- the width in bytes of the number that a row of this part is about, or that has the bits which it
-- is about
abbrev pub part_width : FieldPart → ℕ
part_width Two = 2
part_width Four = 4
part_width Measured = 4
part_width Eight = 8
part_width _ = 1

-- the offset (`.0`) and the width (`.1`) of the number of a row, both in bytes
abbrev pub row_span : FieldRow → ℕ × ℕ
row_span row = (row.0, part_width row.1)

-- the spans have the same offset and the same width
abbrev pub is_same_span : ℕ × ℕ → ℕ × ℕ → Bool
is_same_span span other = span.0 == other.0 && span.1 == other.1

-- the spans of rows, in order; several rows of one number have one
abbrev pub spans_of_rows : List FieldRow → List (ℕ × ℕ)
spans_of_rows rows = dedup is_same_span (map row_span rows)

-- the fields of `struct tcp_info`, in order, except its last ones, which are bit fields of a number
abbrev pub tcp_number_fields : List TcpField
tcp_number_fields = filter (λ f. is_none (tcp_bits_of f)) (first_fields ++ later_fields)
