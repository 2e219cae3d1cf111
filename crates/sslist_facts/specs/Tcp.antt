-- The facts of a TCP or MPTCP connection: the members of `struct tcp_info` of linux/tcp.h or of
-- `struct mptcp_info` of linux/mptcp.h, as Linux 7.2 defines them. JSON has them under the kernel's
-- names without the prefix `tcpi_` or `mptcpi_`. The rows are those of `src/tcp.rt`, see there.
use Rattle.std.specs.Prelude.{ℕ, ◌+◌, ◌==◌, ◌/◌, ◌%◌, nat_le, if◌then◌else◌, Bool, false, not, List}
use Rattle.std.specs.Prelude.{bit_and, codes, drop, length, Option, None, Some, option_map}
use Rattle.std.specs.Borrow.{Bor}
use Rattle.std.specs.Option.{option_map_or}
use Rattle.byteorder.specs.Endian.{little_number}
use Rattle.sock_diag_extras.specs.TcpFields.{tcp_span_of}
use Rattle.sock_diag_extras.specs.declared.tcp_info.TcpField.TheVariants as field
use Rattle.sock_diag_records.specs.declared.constants.TheConstants.{TCPI_OPT_WSCALE}
use Rattle.sslist_facts.specs.Rows.{Text, text_of}
use Rattle.sslist_facts.specs.Facts.{Facts, both, facts_of_each, json_group, number_row_facts}
use Rattle.sslist_facts.specs.declared.facts.Shown.{Shown}
use Rattle.sslist_facts.specs.declared.tcp.FieldPart.{FieldPart}
use Rattle.sslist_facts.specs.declared.tcp.FieldPart.TheVariants.{Eight, FirstBit, Four, HighFour}
use Rattle.sslist_facts.specs.declared.tcp.FieldPart.TheVariants.{LowFour, LowTwo, Measured}
use Rattle.sslist_facts.specs.declared.tcp.FieldPart.TheVariants.{MiddleTwo, Negotiated, NextTwo}
use Rattle.sslist_facts.specs.declared.tcp.FieldPart.TheVariants.{Two}
use Rattle.sslist_facts.specs.declared.tcp.TheConstants.{MPTCP_ROWS, TCP_METRIC_ROWS}
use Rattle.sslist_facts.specs.declared.tcp.TheConstants.{TCP_RATE_ROWS, TCP_STATE_ROWS}

-- a row of `src/tcp.rt`: the offset of a field (`.0`), which number or bits of it the row is about
-- (`.1`), how the table shows them (`.2`), their text in the table (`.3`), and their name in JSON
-- (`.4`)
abbrev pub FieldRow : Type 0
FieldRow = ℕ × FieldPart × Shown × Text × Option Text

-- a row that the code borrows, as a constant has it
abbrev pub field_row_of : ℕ × FieldPart × Shown × Bor (List ℕ) × Option (Bor (List ℕ)) → FieldRow
field_row_of row = (row.0, row.1, row.2, text_of row.3, option_map text_of row.4)

-- `part_bits part n`: the bits of the byte `n` that a row is about: bits 0 to 3, bits 4 to 7, bit
-- 0, bits 1 and 2, bits 0 and 1, or bits 2 and 3; or else the whole byte
abbrev pub part_bits : FieldPart → ℕ → ℕ
part_bits LowFour n = n % 16
part_bits HighFour n = n / 16
part_bits FirstBit n = n % 2
part_bits NextTwo n = n / 2 % 4
part_bits LowTwo n = n % 4
part_bits MiddleTwo n = n / 4 % 4
part_bits _ n = n

-- `bytes_from width offset bytes`: the bytes from the offset on, or None if there are fewer than
-- `width`
abbrev pub bytes_from : ℕ → ℕ → List ℕ → Option (List ℕ)
bytes_from width offset bytes =
    if nat_le (offset + width) (length bytes) then Some (drop offset bytes) else None

-- `field_in width offset bytes`: the little-endian number of `width` bytes at the offset, or None
-- if the bytes end before its end
abbrev pub field_in : ℕ → ℕ → List ℕ → Option ℕ
field_in width offset bytes = option_map (little_number width) (bytes_from width offset bytes)

-- window scaling is negotiated, by the value of `tcpi_options`; false if the bytes do not contain
-- this field (None)
abbrev pub has_scales : Option ℕ → Bool
has_scales options =
    option_map_or (λ bits. not (bit_and bits TCPI_OPT_WSCALE == 0)) options false

-- the round-trip time was measured, by the value of `tcpi_rtt`; false if the bytes do not contain
-- this field (None)
abbrev pub has_round_trip : Option ℕ → Bool
has_round_trip rtt = option_map_or (λ time. not (time == 0)) rtt false

-- `number_in part offset bytes`: the number of a row, by its part and its offset. None if the bytes
-- end before the end of the field, or if the number does not apply to the connection (Negotiated,
-- Measured).
abbrev pub number_in : FieldPart → ℕ → List ℕ → Option ℕ
number_in Two offset bytes = field_in 2 offset bytes
number_in Four offset bytes = field_in 4 offset bytes
number_in Eight offset bytes = field_in 8 offset bytes
number_in Negotiated offset bytes =
    if has_scales (field_in 1 (tcp_span_of field.Options).0 bytes) then field_in 1 offset bytes
    else None
number_in Measured offset bytes =
    if has_round_trip (field_in 4 (tcp_span_of field.Rtt).0 bytes) then field_in 4 offset bytes
    else None
number_in part offset bytes = option_map (part_bits part) (field_in 1 offset bytes)

-- `row_facts bytes row`: the fact of a row; no fact if the bytes do not have its number
unfoldable pub row_facts : List ℕ → FieldRow → Facts
row_facts bytes row = number_row_facts
    (row.2, row.3.now, option_map (λ member. member.now) row.4, number_in row.1 row.0 bytes)

-- `field_facts bytes rows`: the facts of those rows whose number the bytes have, in order
unfoldable pub field_facts : List ℕ → List FieldRow → Facts
field_facts bytes rows = facts_of_each (row_facts bytes) rows

-- the fields of `struct tcp_info` that the bytes contain
unfoldable pub tcp_field_facts : List ℕ → Facts
tcp_field_facts bytes =
    both (field_facts bytes TCP_STATE_ROWS)
    (both (field_facts bytes TCP_METRIC_ROWS) (field_facts bytes TCP_RATE_ROWS))

-- the facts of INET_DIAG_INFO of a TCP socket: those fields, as the group `info`
unfoldable pub tcp_facts : List ℕ → Facts
tcp_facts bytes = json_group (codes "info") (tcp_field_facts bytes)

-- the facts of INET_DIAG_INFO of an MPTCP socket: the fields of `struct mptcp_info` that the bytes
-- contain, as the group `info`
unfoldable pub mptcp_facts : List ℕ → Facts
mptcp_facts bytes = json_group (codes "info") (field_facts bytes MPTCP_ROWS)
