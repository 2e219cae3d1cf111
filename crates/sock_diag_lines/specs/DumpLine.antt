-- A line with the datagrams of a dump, and the answer to it.
use Rattle.std.specs.Prelude.{◌≡◌, ℕ, List, [], ◌∷◌, ◌++◌, length, codes, decimal, Result, Ok}
use Rattle.std.specs.Prelude.{Err}
use Rattle.std.specs.List.{AllByRecursion, flat_map}
use Rattle.netlink_core.specs.declared.error.DecodeError.{DecodeError}
use Rattle.netlink_core.specs.Errors.{error_code}
use Rattle.netlink_packet_sock_diag.specs.declared.dump.DumpState.TheVariants.{Reading, Done, Error}
use Rattle.netlink_packet_sock_diag.specs.declared.dump.DumpState.TheVariants.{Overrun, Failed}
use Rattle.netlink_core.specs.Items.{IsItemOf}
use Rattle.netlink_packet_sock_diag.specs.Dump.{DumpOfDatagrams, DumpStatus}
use Rattle.netlink_packet_sock_diag.specs.Message.{Message, message_codec}
use Rattle.sock_diag_lines.specs.HexField.{AreHexFields, hex_field_of, space}
use Rattle.sock_diag_lines.specs.AnswerText.{IsAnswerToValue}

-- `IsDumpRequest line datagrams`: the line is `dump`, a space, and one or more hex fields, each
-- separated from the next by one space; they are the hex fields of these datagrams, in order
abbrev pub IsDumpRequest : List ℕ → List (List ℕ) → Type 0
IsDumpRequest line datagrams = (fields : List ℕ) × (line ≡ codes "dump" ++ space ∷ fields)
    × AreHexFields fields datagrams

-- `dump_state_text end`: the name of the state in which a dump ended, or `failed:` and the code of
-- the decode error that ended it, in decimal. The error number of the state is not shown. No dump
-- ends with `Ok (Failed, _)`.
abbrev pub dump_state_text : Result DumpStatus DecodeError → List ℕ
dump_state_text (Ok (Reading, number)) = codes "reading"
dump_state_text (Ok (Done, number)) = codes "done"
dump_state_text (Ok (Error, number)) = codes "error"
dump_state_text (Ok (Overrun, number)) = codes "overrun"
dump_state_text (Ok (Failed, number)) = codes "failed"
dump_state_text (Err error) = codes "failed:" ++ decimal (error_code error)

-- the messages of a dump, and its end: its state, or the decode error that ended it
abbrev pub DumpOutcome : Type 0
DumpOutcome = List Message × Result DumpStatus DecodeError

-- `IsDumpOf datagrams outcome`: the dump over the datagrams has this outcome: its messages and its
-- end. `[]`: it has no messages before the first datagram.
abbrev pub IsDumpOf : List (List ℕ) → DumpOutcome → Type 0
IsDumpOf datagrams outcome =
    DumpOfDatagrams (IsItemOf message_codec) ([], datagrams) outcome

-- `IsWritableDump outcome`: each message of the dump is writable
abbrev pub IsWritableDump : DumpOutcome → Type 0
IsWritableDump outcome = AllByRecursion message_codec.is_writable outcome.0

-- `dump_text outcome`: the text of a dump: the state, a space, and the number of messages in
-- decimal; then a space and a hex field for each message. For example: `done 1 0200..`
abbrev pub dump_text : DumpOutcome → List ℕ
dump_text outcome = dump_state_text outcome.1 ++ space ∷ decimal (length outcome.0)
    ++ flat_map (λ message. space ∷ hex_field_of (message_codec.serialized message)) outcome.0

-- `IsDumpAnswer datagrams text`: the text answers the dump over the datagrams: it is `ok ` and the
-- text of the dump, or `unwritable` if a message of the dump is not writable
abbrev pub IsDumpAnswer : List (List ℕ) → List ℕ → Type 0
IsDumpAnswer datagrams text = (outcome : DumpOutcome) × IsDumpOf datagrams outcome
    × IsAnswerToValue (IsWritableDump outcome) (dump_text outcome) text
