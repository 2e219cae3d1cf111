-- Diagnostics on standard error. `front` is the prefix of each line, and 10 is a line feed. Packets
-- and messages are numbered from 1 on. `whole` is false if the packet was truncated.
use Rattle.std.specs.Prelude.{◌≡◌, ℕ, ◌+◌, ◌==◌, if◌then◌else◌, nat_lt, List, [], ◌∷◌, ◌++◌, ◌⊎◌}
use Rattle.std.specs.Prelude.{bit_and, codes, decimal, drop, length, Option, None, Some}
use Rattle.std.specs.Prelude.{◌||◌, Bool, MatchOption, false, nat_le, not, true}
use Rattle.netlink_captures.specs.Capture.{CapturedPacket}
use Rattle.sslist_texts.specs.Reports.{truncation_line, short_line}
use Rattle.netlink_core.specs.Datagram.{SplitsIntoMessages}
use Rattle.netlink_core.specs.declared.error.DecodeError.{DecodeError}
use Rattle.netlink_core.specs.declared.message.TheConstants.{NLM_F_DUMP_INTR}
use Rattle.netlink_core.specs.declared.error.DecodeError.TheVariants.{Memory, BufferTooSmall}
use Rattle.netlink_core.specs.declared.error.DecodeError.TheVariants.{UnsupportedFamily}
use Rattle.netlink_core.specs.declared.error.DecodeError.TheVariants.{MessageTooShort}
use Rattle.netlink_core.specs.declared.error.DecodeError.TheVariants.{UnknownFamily}
use Rattle.netlink_core.specs.declared.error.DecodeError.TheVariants.{UnknownMessageType}
use Rattle.netlink_core.specs.declared.error.DecodeError.TheVariants.{AttributeHeaderCut}
use Rattle.netlink_core.specs.declared.error.DecodeError.TheVariants.{AttributeLengthUnder4}
use Rattle.netlink_core.specs.declared.error.DecodeError.TheVariants.{AttributeLengthPast}
use Rattle.netlink_core.specs.declared.error.DecodeError.TheVariants.{WrongLength}
use Rattle.netlink_core.specs.declared.error.DecodeError.TheVariants.{NotMultipleOfFour, NotUtf8}
use Rattle.netlink_core.specs.declared.error.DecodeError.TheVariants.{NameEmpty, NameInnerZero}
use Rattle.netlink_core.specs.declared.error.DecodeError.TheVariants.{NameWithoutEnd, EnvelopeCut}
use Rattle.netlink_core.specs.declared.error.DecodeError.TheVariants.{EnvelopeLengthUnder16}
use Rattle.netlink_core.specs.declared.error.DecodeError.TheVariants.{EnvelopeLengthPast}
use Rattle.netlink_core.specs.declared.error.RecordName.{RecordName}
use Rattle.netlink_core.specs.declared.error.RecordName.TheVariants.{SocketId, InetRequest}
use Rattle.netlink_core.specs.declared.error.RecordName.TheVariants.{InetResponseHeader}
use Rattle.netlink_core.specs.declared.error.RecordName.TheVariants.{UnixRequest}
use Rattle.netlink_core.specs.declared.error.RecordName.TheVariants.{UnixResponseHeader}
use Rattle.netlink_core.specs.declared.error.RecordName.TheVariants.{LegacyMemInfo, MemInfo}
use Rattle.netlink_core.specs.declared.error.RecordName.TheVariants.{TcpInfo, Vfs, UnixMemInfo}
use Rattle.netlink_core.specs.declared.error.RecordName.TheVariants.{FamilyRequest}
use Rattle.netlink_core.specs.declared.error.RecordName.TheVariants.{FamilyResponseHeader}
use Rattle.netlink_core.specs.declared.error.RecordName.TheVariants.{FamilyAttribute}
use Rattle.sslist_lister.specs.Explanation.{explanation}
use Rattle.sslist_lister.specs.Listing.{IsSockDiag, message_diagnostic}
use Rattle.sslist_lister.specs.Messages.{MessageParts, message_in, request_in}
use Rattle.sslist_lister.specs.declared.list.Diagnostic.{Diagnostic}
use Rattle.sslist_lister.specs.declared.list.Diagnostic.TheVariants.{Refused, Answered}
use Rattle.sslist_lister.specs.declared.list.Diagnostic.TheVariants.{NoEntry}
use Rattle.sslist_lister.specs.declared.list.Diagnostic.TheVariants.{Invalid, Interrupted}
use Rattle.sslist_lister.specs.declared.list.Diagnostic.TheVariants.{Lost, NoNumber}

-- ---- texts

-- `record_text name`: the name of a record; for `FamilyRequest`, `FamilyResponseHeader` and
-- `FamilyAttribute` also the number of the family, and for the last one the type of the attribute
abbrev pub record_text : RecordName → List ℕ
record_text SocketId = codes "SocketId"
record_text InetRequest = codes "InetRequest"
record_text InetResponseHeader = codes "InetResponseHeader"
record_text UnixRequest = codes "UnixRequest"
record_text UnixResponseHeader = codes "UnixResponseHeader"
record_text LegacyMemInfo = codes "LegacyMemInfo"
record_text MemInfo = codes "MemInfo"
record_text TcpInfo = codes "TcpInfo"
record_text Vfs = codes "Vfs"
record_text UnixMemInfo = codes "UnixMemInfo"
record_text (FamilyRequest family) =
    codes "FamilyRequest { family: " ++ decimal family ++ codes " }"
record_text (FamilyResponseHeader family) =
    codes "FamilyResponseHeader { family: " ++ decimal family ++ codes " }"
record_text (FamilyAttribute family kind) =
    codes "FamilyAttribute { family: " ++ decimal family ++ codes ", kind: " ++ decimal kind
    ++ codes " }"

-- the text of a decode error
abbrev pub decode_error_text : DecodeError → List ℕ
decode_error_text Memory = codes "out of memory"
decode_error_text (BufferTooSmall which got need) =
    record_text which ++ codes ": buffer of " ++ decimal got ++ codes " bytes, at least "
    ++ decimal need ++ codes " needed"
decode_error_text (UnsupportedFamily family) =
    codes "unsupported address family " ++ decimal family
    ++ codes ": expected AF_INET (2) or AF_INET6 (10)"
decode_error_text (MessageTooShort got) =
    codes "invalid buffer: length is " ++ decimal got ++ codes " but packets are at least 2 bytes"
decode_error_text (UnknownFamily family) = codes "unknown address family " ++ decimal family
decode_error_text (UnknownMessageType message_type) =
    codes "unknown message type " ++ decimal message_type
decode_error_text (AttributeHeaderCut left) =
    codes "attribute header cut: " ++ decimal left ++ codes " bytes left"
decode_error_text (AttributeLengthUnder4 len) =
    codes "attribute length " ++ decimal len ++ codes " is under 4"
decode_error_text (AttributeLengthPast len left) =
    codes "attribute length " ++ decimal len ++ codes " is past the " ++ decimal left
    ++ codes " bytes left"
decode_error_text (WrongLength kind got need) =
    codes "value of " ++ decimal got ++ codes " bytes, " ++ decimal need ++ codes " needed"
decode_error_text (NotMultipleOfFour got) =
    codes "value of " ++ decimal got ++ codes " bytes is no multiple of 4"
decode_error_text NotUtf8 = codes "text is not UTF-8"
decode_error_text NameEmpty = codes "name is empty"
decode_error_text (NameInnerZero index) = codes "pathname holds a zero at " ++ decimal index
decode_error_text NameWithoutEnd = codes "pathname is not null-terminated"
decode_error_text (EnvelopeCut got) = codes "message header cut: " ++ decimal got ++ codes " bytes"
decode_error_text (EnvelopeLengthUnder16 len) =
    codes "message length " ++ decimal len ++ codes " is under 16"
decode_error_text (EnvelopeLengthPast len got) =
    codes "message length " ++ decimal len ++ codes " is past the " ++ decimal got
    ++ codes " bytes given"

-- the text of a diagnostic
abbrev pub diagnostic_text : Diagnostic → List ℕ
diagnostic_text (Refused error) = decode_error_text error
diagnostic_text (Answered errno) = codes "the kernel returned error " ++ decimal errno
diagnostic_text NoEntry = codes "note: the kernel returned ENOENT"
diagnostic_text Invalid = codes "note: the kernel returned EINVAL"
diagnostic_text Interrupted = codes "dump interrupted (NLM_F_DUMP_INTR)"
diagnostic_text Lost = codes "the kernel lost data"
diagnostic_text NoNumber = codes "the kernel's answer has no error number"

-- ---- lines of messages

-- `line_start front packet message`: the start of a line about the message with the number
-- `message` in the packet with the number `packet`
abbrev pub line_start : List ℕ → ℕ → ℕ → List ℕ
line_start front packet message =
    front ++ codes "packet " ++ decimal packet ++ codes ", message " ++ decimal message
    ++ codes ": "

-- `diagnostic_line start diagnostic`: the line of a diagnostic, which begins with `start`
-- (`line_start`); nothing if there is no diagnostic (None)
abbrev pub diagnostic_line : List ℕ → Option Diagnostic → List ℕ
diagnostic_line start None = []
diagnostic_line start (Some diagnostic) = start ++ diagnostic_text diagnostic ++ 10 ∷ []

-- the diagnostic of the flags of a message: Interrupted if they have NLM_F_DUMP_INTR, else None
abbrev pub interrupted_diagnostic : ℕ → Option Diagnostic
interrupted_diagnostic flags =
    if bit_and flags NLM_F_DUMP_INTR == 0 then None else Some Interrupted

-- `explained_line start diagnostic explained`: the line of a diagnostic, which begins with `start`
-- (`line_start`) and ends with the text `explained`; nothing if there is no diagnostic (None)
abbrev pub explained_line : List ℕ → Option Diagnostic → List ℕ → List ℕ
explained_line start None explained = []
explained_line start (Some diagnostic) explained =
    start ++ (diagnostic_text diagnostic ++ explained) ++ 10 ∷ []

-- `lines_about_message start m`: the lines about the message `m`, each of which begins with `start`
-- (`line_start`). The first is about an interrupted dump. The second is about any other diagnostic
-- of the message, and ends with `explanation m`. Each line is present only if there is such a
-- diagnostic.
abbrev pub lines_about_message : List ℕ → MessageParts → List ℕ
lines_about_message start m =
    diagnostic_line start (interrupted_diagnostic m.header.flags)
    ++ explained_line start (message_diagnostic m.header.message_type m.payload) (explanation m)

-- `lines_about front packet message messages`: the lines about these consecutive messages of the
-- packet with the number `packet`. The first of them has the number `message`.
abbrev pub lines_about : List ℕ → ℕ → ℕ → List (List ℕ) → List ℕ
lines_about front packet message [] = []
lines_about front packet message (m ∷ later) =
    lines_about_message (line_start front packet message) (message_in m)
    ++ lines_about front packet (message + 1) later

-- the error is that of a message whose last bytes are missing: its header is incomplete, or its
-- length is greater than the number of bytes
abbrev pub is_cut : DecodeError → Bool
is_cut (EnvelopeCut got) = true
is_cut (EnvelopeLengthPast len got) = true
is_cut error = false

-- `framing_error_line start whole error`: the line about the bytes after the last message of a
-- datagram, with their decode error; nothing if there are no such bytes (None). It begins with
-- `start` (`line_start`). If the packet was truncated (`whole` is false), a message whose last
-- bytes are missing has no line, since the line about the truncation names the cause.
abbrev pub framing_error_line : List ℕ → Bool → Option DecodeError → List ℕ
framing_error_line start whole None = []
framing_error_line start whole (Some error) =
    if whole || not (is_cut error) then diagnostic_line start (Some (Refused error)) else []

-- ---- datagrams and packets

-- `DiagnosesMessages front packet whole datagram before after`: the text `after` is the text
-- `before`, the lines about the messages of the datagram in order, and the line about the bytes
-- after the last message, if there are any. `packet` is the number of the packet that contains the
-- datagram.
pub record DiagnosesMessages (front : List ℕ) (packet : ℕ) (whole : Bool)
    (datagram before after : List ℕ) : Type 0 where
  -- the messages of the datagram, without the padding between them
  pub messages : List (List ℕ)
  -- the error of the bytes after the last message, if there are any
  pub end : Option DecodeError
  -- the datagram consists of these messages and of the bytes with this error
  pub cut : SplitsIntoMessages datagram messages end
  -- The first message has the number 1. The bytes after the last one count as one more message.
  pub lines : after ≡ before ++ (lines_about front packet 1 messages
      ++ framing_error_line (line_start front packet (length messages + 1)) whole end)

-- `DiagnosesDatagram front packet whole datagram before after`: the text `after` is the text
-- `before` and the lines about the datagram. It has none if it begins with a request.
abbrev pub DiagnosesDatagram : List ℕ → ℕ → Bool → List ℕ → List ℕ → List ℕ → Type 0
DiagnosesDatagram front packet whole datagram before after = MatchOption (request_in datagram)
    (DiagnosesMessages front packet whole datagram before after) (λ request. after ≡ before)

-- `short_line_if_whole front packet whole`: the line about the packet with this number, which has
-- fewer than 16 bytes; nothing if it was truncated
abbrev pub short_line_if_whole : List ℕ → ℕ → Bool → List ℕ
short_line_if_whole front packet whole = if whole then short_line front packet else []

-- `DiagnosesContent front packet whole bytes before after`: the text `after` is the text `before`
-- and the lines about the bytes of the packet with this number. If the packet is one of
-- sock_diag(7), these are the lines about its datagram, which follows the cooked header of 16
-- bytes. Otherwise there is one line if the packet has fewer than 16 bytes and was not truncated,
-- or else none.
abbrev pub DiagnosesContent : List ℕ → ℕ → Bool → List ℕ → List ℕ → List ℕ → Type 0
DiagnosesContent front packet whole bytes before after =
    (IsSockDiag bytes × DiagnosesDatagram front packet whole (drop 16 bytes) before after)
    ⊎ ((¬ IsSockDiag bytes)
    × (after ≡ before
    ++ (if nat_lt (length bytes) 16 then short_line_if_whole front packet whole else [])))

-- `DiagnosesPacket front number packet before after`: the text `after` is the text `before` and the
-- lines about the packet, whose number is `number`. If it was truncated, the first line says so.
-- The lines about its bytes follow.
abbrev pub DiagnosesPacket : List ℕ → ℕ → CapturedPacket → List ℕ → List ℕ → Type 0
DiagnosesPacket front number packet before after =
    DiagnosesContent front number (nat_le packet.header.whole_length (length packet.bytes))
    packet.bytes
    (before ++ truncation_line front number (length packet.bytes) packet.header.whole_length) after

-- `AreDiagnosed front number packets lines`: `lines` are the lines about consecutive packets, of
-- which the first has this number. `first` are the lines about the first packet, without a text
-- before them (`[]`), and `rest` those about the later ones.
abbrev pub AreDiagnosed : List ℕ → ℕ → List CapturedPacket → List ℕ → Type 0
AreDiagnosed front number [] lines = lines ≡ []
AreDiagnosed front number (packet ∷ packets) lines =
    (first rest : List ℕ) × DiagnosesPacket front number packet [] first
    × AreDiagnosed front (number + 1) packets rest × (lines ≡ first ++ rest)
