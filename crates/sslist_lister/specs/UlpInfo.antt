-- The upper layer protocol of a TCP socket, INET_DIAG_ULP_INFO. The value of the attribute consists
-- of attributes, which may consist of attributes again. Of each type the first one counts. Names in
-- JSON are the kernel's names in lowercase, without the prefixes `INET_ULP_INFO_`, `TLS_INFO_` and
-- `MPTCP_SUBFLOW_ATTR_`; the texts are those of ss(8), but for those of TLS, which in ss(8) have a
-- space after each colon, and the tokens.
use Rattle.std.specs.Prelude.{ℕ, if◌then◌else◌, Bool, List, codes, is_some}
use Rattle.std.specs.Prelude.{Option, Result, Ok, Err, false, option_map}
use Rattle.std.specs.Borrow.{Bor}
use Rattle.std.specs.List.{list_all}
use Rattle.std.specs.Option.{option_map_or}
use Rattle.netlink_core.specs.Parse.{parse_text}
use Rattle.netlink_core.specs.declared.error.DecodeError.{DecodeError}
use Rattle.netlink_core.specs.declared.error.DecodeError.TheVariants.{NameEmpty}
use Rattle.sock_diag_extras.specs.UlpInfo.{subflow_row, tls_row}
use Rattle.sock_diag_extras.specs.declared.constants.TheConstants.{INET_ULP_INFO_MPTCP}
use Rattle.sock_diag_extras.specs.declared.constants.TheConstants.{INET_ULP_INFO_NAME}
use Rattle.sock_diag_extras.specs.declared.constants.TheConstants.{INET_ULP_INFO_TLS}
use Rattle.sock_diag_extras.specs.declared.constants.TheConstants.{TLS_INFO_RX_NO_PAD}
use Rattle.sock_diag_extras.specs.declared.constants.TheConstants.{TLS_INFO_ZC_RO_TX}
use Rattle.sslist_facts.specs.Facts.{Facts, both, facts_of_each, flag_facts, json_group}
use Rattle.sslist_facts.specs.Facts.{no_facts, number_row_facts, text_facts}
use Rattle.sslist_facts.specs.Rows.{Text, text_of}
use Rattle.sslist_facts.specs.declared.facts.Shown.{Shown}
use Rattle.sslist_facts.specs.declared.facts.Shown.TheVariants.{Bits}
use Rattle.sslist_lister.specs.Pieces.{nested_number, nested_value}
use Rattle.sslist_lister.specs.declared.ulp_info.TheConstants.{FLAG_ROWS, SUBFLOW_ROWS, TLS_ROWS}
use Rattle.sslist_lister.specs.declared.ulp_info.TheConstants.{TOKEN_ROWS}
use Rattle.sslist_lister.specs.declared.ulp_info.UlpField.{UlpField}
use Rattle.sslist_lister.specs.declared.ulp_info.UlpField.TheVariants.{Subflow, Tls}

-- `ulp_number bytes field`: the number of a field in the nested attributes `bytes`; None if they do
-- not have it
abbrev pub ulp_number : List ℕ → UlpField → Option ℕ
ulp_number bytes (Tls field) = nested_number (tls_row field) bytes
ulp_number bytes (Subflow field) = nested_number (subflow_row field) bytes

-- the name of the protocol in the value, without its terminating NUL if it has one; an error if
-- there is no name, or if it is not valid UTF-8
abbrev pub ulp_name : List ℕ → Result (List ℕ) DecodeError
ulp_name value = option_map_or parse_text (nested_value INET_ULP_INFO_NAME value) (Err NameEmpty)

-- ---- rows

-- a row of `src/ulp_info.rt`: how the table shows a number (`.0`), its text there (`.1`), its name
-- in JSON (`.2`), and its field (`.3`)
abbrev pub UlpRow : Type 0
UlpRow = Shown × Text × Option Text × UlpField

-- a row that the code borrows, as a constant has it
abbrev pub ulp_row_of : Shown × Bor (List ℕ) × Option (Bor (List ℕ)) × UlpField → UlpRow
ulp_row_of row = (row.0, text_of row.1, option_map text_of row.2, row.3)

-- `ulp_row bytes row`: the fact of a row; no fact if the nested attributes `bytes` do not have its
-- field
unfoldable pub ulp_row : List ℕ → UlpRow → Facts
ulp_row bytes row = number_row_facts
    (row.0, row.1.now, option_map (λ member. member.now) row.2, ulp_number bytes row.3)

-- `has_fields bytes rows`: the nested attributes have the field of each row
abbrev pub has_fields : List ℕ → List UlpRow → Bool
has_fields bytes rows = list_all (λ row. is_some (ulp_number bytes row.3)) rows

-- `ulp_rows bytes rows`: the facts of those rows whose field the nested attributes have, in order
unfoldable pub ulp_rows : List ℕ → List UlpRow → Facts
ulp_rows bytes rows = facts_of_each (ulp_row bytes) rows

-- ---- TLS in the kernel

-- `presence_facts kind text member bytes`: whether the nested attributes `bytes` have one of this
-- type. The table shows `text` if they do (`Bits 1` of the number 0 or 1). JSON has `member`.
abbrev pub presence_facts : ℕ → List ℕ → List ℕ → List ℕ → Facts
presence_facts kind text member bytes =
    flag_facts (Bits 1) text member (is_some (nested_value kind bytes))

-- the facts of the nested attributes about TLS: the numbers, and whether each flag is present
unfoldable pub tls_facts : List ℕ → Facts
tls_facts bytes = both (ulp_rows bytes TLS_ROWS)
    (both (presence_facts TLS_INFO_ZC_RO_TX (codes " zc_ro_tx") (codes "zc_ro_tx") bytes)
    (presence_facts TLS_INFO_RX_NO_PAD (codes " no_pad_rx") (codes "rx_no_pad") bytes))

-- ---- subflows of MPTCP connections

-- The tokens of a connection, and the ids of the addresses. The table has
-- ` token:REMOTE(id:ID)/LOCAL(id:ID)` if all four are present, or else nothing. JSON has them by
-- `SUBFLOW_ROWS`.
abbrev pub token_facts : List ℕ → Facts
token_facts bytes =
    if has_fields bytes TOKEN_ROWS then ulp_rows bytes TOKEN_ROWS else no_facts

-- the facts of the nested attributes of a subflow: the letters of the flags, the tokens with the
-- ids, and then the other numbers
unfoldable pub subflow_facts : List ℕ → Facts
subflow_facts bytes =
    both (ulp_rows bytes FLAG_ROWS) (both (token_facts bytes) (ulp_rows bytes SUBFLOW_ROWS))

-- ---- the attribute

-- `nested_group member facts found`: `facts` of the nested attributes `found`, as the object
-- `member` in JSON; no facts if there are no such attributes (None)
abbrev pub nested_group : List ℕ → (List ℕ → Facts) → Option (List ℕ) → Facts
nested_group member facts found =
    option_map_or (λ bytes. json_group member (facts bytes)) found no_facts

-- `ulp_parts name value`: the name of the protocol, and what the value has about TLS and MPTCP. The
-- name is always shown with escapes, without the option `--utf8` (`false`).
abbrev pub ulp_parts : List ℕ → List ℕ → Facts
ulp_parts name value =
    both (text_facts false (codes " tcp-ulp-") (codes "name") name)
    (both (nested_group (codes "tls") tls_facts (nested_value INET_ULP_INFO_TLS value))
    (nested_group (codes "mptcp") subflow_facts (nested_value INET_ULP_INFO_MPTCP value)))

-- `facts_if_named value name`: the group `ulp_info` of a protocol with this name, and with this
-- value of the attribute; no facts without a valid name (Err)
abbrev pub facts_if_named : List ℕ → Result (List ℕ) DecodeError → Facts
facts_if_named value (Ok name) = json_group (codes "ulp_info") (ulp_parts name value)
facts_if_named value (Err e) = no_facts

-- the facts of an attribute INET_DIAG_ULP_INFO with this value
abbrev pub ulp_facts : List ℕ → Facts
ulp_facts value = facts_if_named value (ulp_name value)
