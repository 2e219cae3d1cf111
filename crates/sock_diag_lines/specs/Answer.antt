-- The answer to a line. A line is a name, one space and a hex field; or a dump over datagrams; or
-- anything else.
use Rattle.std.specs.Prelude.{◌≡◌, ◌&&◌, ◌∷◌, ℕ, Bool, List, ◌++◌, codes, eqb, not, ⊤}
use Rattle.std.specs.List.{starts_with}
use Rattle.sock_diag_records.specs.UnixRequest.{unix_request}
use Rattle.sock_diag_records.specs.InetRequest.{inet_request}
use Rattle.sock_diag_records.specs.SocketId.{socket_id}
use Rattle.sock_diag_replies.specs.UnixResponseSpec.{unix_response_spec}
use Rattle.sock_diag_replies.specs.InetResponseSpec.{inet_response_spec}
use Rattle.netlink_packet_sock_diag.specs.Message.{message_codec, netlink_message_codec}
use Rattle.netlink_core.specs.Codec.{record_codec}
use Rattle.netlink_core.specs.Response.{response_codec}
use Rattle.sock_diag_lines.specs.DumpLine.{IsDumpRequest, IsDumpAnswer}
use Rattle.sock_diag_lines.specs.HexField.{IsHexField, space}
use Rattle.sock_diag_lines.specs.AnswerText.{AnswerCodec, HasWritableValue, IsAnswerUnder}
use Rattle.sock_diag_lines.specs.AnswerText.{answer_codec, codec_with_text}
use Rattle.sock_diag_lines.specs.MessageLine.{netlink_message_text}
use Rattle.sock_diag_lines.specs.ViewLine.{reply_text}
use Rattle.sock_diag_lines.specs.declared.answers.Name.{Name}
use Rattle.sock_diag_lines.specs.declared.answers.Name.TheVariants as names
use Rattle.sock_diag_records.specs.declared.constants.TheConstants as c

-- `name_entry name`: the spelling of the name in a line, and how the bytes after it are parsed and
-- shown: the codec and its parameter. The parameter of a socket id is the address family. The
-- parameter of a message is its type. The others have none, `tt`. The text of a value is the
-- canonical form in hex (`answer_codec`), except for the last two names.
abbrev pub name_entry : Name → List ℕ × AnswerCodec
name_entry names.UnixRequest = (codes "unixreq", answer_codec (record_codec unix_request) tt)
name_entry names.UnixResponse = (codes "unix", answer_codec (response_codec unix_response_spec) tt)
name_entry names.InetRequest = (codes "inetreq", answer_codec (record_codec inet_request) tt)
name_entry names.InetResponse = (codes "inet", answer_codec (response_codec inet_response_spec) tt)
name_entry names.SocketId4 = (codes "sockid4", answer_codec (record_codec socket_id) c.AF_INET)
name_entry names.SocketId6 = (codes "sockid6", answer_codec (record_codec socket_id) c.AF_INET6)
name_entry names.Message = (codes "message", answer_codec message_codec c.SOCK_DIAG_BY_FAMILY)
-- the fields of the header as they were parsed, and the serialized payload
name_entry names.NetlinkMessage =
    (codes "netlink", codec_with_text netlink_message_codec tt netlink_message_text)
-- thirteen values of a reply about a UNIX socket; the answer is never `unwritable`, since each
-- value counts as writable
name_entry names.UnixView =
    let replies = record (response_codec unix_response_spec) { is_writable = λ value. ⊤ } in
    (codes "unixview", codec_with_text replies tt reply_text)

-- `spelling_of name`: the bytes of the name as it is spelled in a line
abbrev pub spelling_of : Name → List ℕ
spelling_of name = (name_entry name).0

-- `codec_of_name name`: how the bytes after this name are parsed and shown
abbrev pub codec_of_name : Name → AnswerCodec
codec_of_name name = (name_entry name).1

-- `IsRequest line name bytes`: the line is the spelling of this name, one space and a hex field of
-- the bytes
abbrev pub IsRequest : List ℕ → Name → List ℕ → Type 0
IsRequest line name bytes =
    (field : List ℕ) × (line ≡ spelling_of name ++ space ∷ field) × IsHexField field bytes

-- `IsWritableRequest line name bytes`: the line is a request with this name and these bytes, which
-- parse as a writable value
abbrev pub IsWritableRequest : List ℕ → Name → List ℕ → Type 0
IsWritableRequest line name bytes =
    IsRequest line name bytes × HasWritableValue (codec_of_name name) bytes

-- `IsBadLine line`: the line is neither a name and a hex field, whatever the name and the bytes,
-- nor a dump, whatever the datagrams
pub record IsBadLine (line : List ℕ) : Type 0 where
  pub unnamed : (name : Name) (bytes : List ℕ) → ¬ IsRequest line name bytes
  pub undumped : (datagrams : List (List ℕ)) → ¬ IsDumpRequest line datagrams

-- the answer to a bad line
abbrev pub bad_line_text : List ℕ
bad_line_text = codes "bad line"

-- `IsAnswerOf line text`: the text answers the line. A line `NAME HEX` is answered by `ok ` and the
-- text of the value of these bytes, by `unwritable`, or by `refused ` and the code of the first
-- error (`IsAnswerUnder`). A line `dump HEX HEX ..` is answered by `ok `, the state, the number of
-- messages and the messages, or by `unwritable` (`IsDumpAnswer`). Every other line is answered by
-- `bad line`.
pub record IsAnswerOf (line text : List ℕ) : Type 0 where
  -- if the line is a name and a hex field of these bytes
  pub named : (name : Name) (bytes : List ℕ) → IsRequest line name bytes
      → IsAnswerUnder (codec_of_name name) bytes text
  -- if the line is a dump over these datagrams
  pub dumped : (datagrams : List (List ℕ)) → IsDumpRequest line datagrams
      → IsDumpAnswer datagrams text
  -- if the line is neither
  pub other : IsBadLine line → text ≡ bad_line_text

-- `is_good text`: the answer starts with `ok `, and not with `ok failed`. Only the answer to a dump
-- can start with `ok failed`: that of a dump that ended with a decode error. `eqb` compares bytes.
abbrev pub is_good : List ℕ → Bool
is_good text = starts_with eqb text (codes "ok ") && not (starts_with eqb text (codes "ok failed"))
