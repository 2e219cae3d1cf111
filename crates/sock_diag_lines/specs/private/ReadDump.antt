-- The model of a dump that the program reads, how it grows, and the parts of its answer.
use Rattle.std.specs.Prelude.{◌≡◌, ℕ, List, [], ◌∷◌, ◌++◌, length, map, take, drop, None}
use Rattle.std.specs.Prelude.{Result, MatchBool}
use Rattle.netlink_core.specs.declared.error.DecodeError.{DecodeError}
use Rattle.netlink_core.specs.Errors.{map_ok}
use Rattle.sock_diag_lines.specs.declared.dump_line.ReadDump.{ReadDump}
use Rattle.std.specs.List.{AllByRecursion, flat_map}
use Rattle.netlink_packet_sock_diag.specs.declared.dump.DumpState.{DumpState}
use Rattle.netlink_packet_sock_diag.specs.Dump.{DumpStatus}
use Rattle.netlink_packet_sock_diag.specs.Message.{Message, message_codec}
use Rattle.sock_diag_lines.specs.AnswerText.{IsAnswerToValue}
use Rattle.sock_diag_lines.specs.DumpLine.{DumpOutcome, IsDumpOf, IsWritableDump, dump_text}
use Rattle.sock_diag_lines.specs.HexField.{hex_field_of, space}

-- `texts_in lengths bytes`: the bytes are split into parts of these lengths, in order; the text has
-- a space and a hex field for each part
abbrev pub texts_in : List ℕ → List ℕ → List ℕ
texts_in [] bytes = []
texts_in (first ∷ lengths) bytes =
    (space ∷ hex_field_of (take first bytes)) ++ texts_in lengths (drop first bytes)

-- `state_or_error end`: the state in which a dump ended, or the decode error that ended it. The
-- error number of the state (`status.1`) is left out: no answer shows it.
abbrev pub state_or_error : Result DumpStatus DecodeError → Result DumpState DecodeError
state_or_error end = map_ok (λ (status : DumpStatus). status.0) end

-- `shown_end dump`: the end of the dump, in the form that `dump_state_text` expects. It has no
-- error number (`None`): no answer shows it.
abbrev pub shown_end : ReadDump → Result DumpStatus DecodeError
shown_end dump = map_ok (λ (state : DumpState). (state, None)) dump.end

-- `HasMessages dump messages`: either each of these messages is writable, and the dump has their
-- lengths and their bytes; or not each of them is writable, and `is_writable` is false
abbrev pub HasMessages : ReadDump → List Message → Type 0
HasMessages dump messages = MatchBool dump.is_writable
    (AllByRecursion message_codec.is_writable messages
    × (dump.lengths.items ≡ map (λ message. length (message_codec.serialized message)) messages)
    × (dump.bytes.items ≡ flat_map message_codec.serialized messages))
    (¬ AllByRecursion message_codec.is_writable messages)

-- `HasOutcome dump outcome`: the dump has the messages of the outcome, and its end
abbrev pub HasOutcome : ReadDump → DumpOutcome → Type 0
HasOutcome dump outcome = HasMessages dump outcome.0 × (dump.end ≡ state_or_error outcome.1)

-- `IsReadDump datagrams dump`: the dump over these datagrams has an outcome, and `dump` has its
-- messages and its end
abbrev pub IsReadDump : List (List ℕ) → ReadDump → Type 0
IsReadDump datagrams dump = (outcome : DumpOutcome) × IsDumpOf datagrams outcome
    × HasOutcome dump outcome

-- `FeedsOneDatagram old datagram new`: whichever datagrams `old` has read, `new` has read these
-- datagrams and then this one
abbrev pub FeedsOneDatagram : ReadDump → List ℕ → ReadDump → Type 0
FeedsOneDatagram old datagram new = (datagrams : List (List ℕ)) → IsReadDump datagrams old
    → IsReadDump (datagrams ++ datagram ∷ []) new

-- `AppendsMessage old message new`: `new` has the end of `old`; and whichever messages `old` has,
-- `new` has these messages and then this one
abbrev pub AppendsMessage : ReadDump → Message → ReadDump → Type 0
AppendsMessage old message new = (new.end ≡ old.end) × ((messages : List Message)
    → HasMessages old messages → HasMessages new (messages ++ message ∷ []))

-- `AnswersDump dump text`: the text is the answer to each outcome that the dump may have. There are
-- several, since `dump` has no error number, and lacks messages if one is not writable. They have
-- the same answer.
abbrev pub AnswersDump : ReadDump → List ℕ → Type 0
AnswersDump dump text = (outcome : DumpOutcome) → HasOutcome dump outcome
    → IsAnswerToValue (IsWritableDump outcome) (dump_text outcome) text
