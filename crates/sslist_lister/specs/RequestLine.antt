-- Lines of requests.
use Rattle.std.specs.Prelude.{ℕ, ◌==◌, ◌&&◌, not, if◌then◌else◌, Bool, true, false, List, [], ◌∷◌}
use Rattle.std.specs.Prelude.{◌++◌, codes, Option, None, Some}
use Rattle.sslist_texts.specs.Times.{time_text}
use Rattle.sslist_lister.specs.Parts.{hex_detail}
use Rattle.netlink_captures.specs.declared.captures.PacketHeader.{PacketHeader}
use Rattle.sslist_command_line.specs.declared.options.Family.{Family}
use Rattle.sslist_command_line.specs.declared.options.Family.TheVariants as families
use Rattle.sslist_command_line.specs.declared.options.Options.{Options}
use Rattle.sock_diag_records.specs.declared.constants.TheConstants.{SOCK_DESTROY}
use Rattle.sslist_lister.specs.Messages.{MessageParts}
use Rattle.sslist_lister.specs.Requests.{requested}
use Rattle.sslist_lister.specs.Table.{family_name, inet_kind}
use Rattle.sslist_lister.specs.declared.requests.Query.{Query}
use Rattle.sslist_lister.specs.declared.requests.Requested.{Requested}
use Rattle.sslist_lister.specs.declared.requests.Requested.TheVariants as requests

-- the name of a requested family
abbrev pub requested_family_text : Family → List ℕ
requested_family_text families.Netlink = codes "netlink"
requested_family_text families.Packet = codes "packet"
requested_family_text families.Vsock = codes "vsock"
requested_family_text families.Xdp = codes "xdp"

-- the text about requested IPv4 or IPv6 sockets: the protocol, the family and a bit for each
-- requested state. Example: `tcp family:inet states:0xfff`.
abbrev pub inet_request_text : Query → List ℕ
inet_request_text query =
    inet_kind (Some query.protocol) query.family ++ codes " family:" ++ family_name query.family
    ++ hex_detail (codes "states") query.states

-- the text about requested sockets: for IPv4 and IPv6 sockets `inet_request_text`, for UNIX sockets
-- `unix` and a bit for each requested state, for other families the name, and `other` if it is not
-- known what is requested
abbrev pub requested_text : Requested → List ℕ
requested_text (requests.Inet query) = inet_request_text query
requested_text (requests.Unix states) = codes "unix" ++ hex_detail (codes "states") states
requested_text (requests.Other family) = requested_family_text family
requested_text requests.Unknown = codes "other"

-- the text before the sockets of a request of this type: `destroy ` if it closes them, or else
-- nothing
abbrev pub request_verb : ℕ → List ℕ
request_verb message_type = if message_type == SOCK_DESTROY then codes "destroy " else []

-- what a request asks for, as text: `destroy ` if it closes sockets, and then these sockets
unfoldable pub request_text : MessageParts → List ℕ
request_text request =
    request_verb request.header.message_type ++ requested_text (requested request)

-- it is known what a request asks for
abbrev pub is_known_request : Requested → Bool
is_known_request requests.Unknown = false
is_known_request sockets = true

-- the note of a request: ` (request: `, what it asks for, and `)`
abbrev pub known_request_note : MessageParts → List ℕ
known_request_note request = codes " (request: " ++ request_text request ++ codes ")"

-- `request_note unknown request`: the note of a request; the text `unknown` if it is not known what
-- the request asks for, or if there is no request (None)
abbrev pub request_note : List ℕ → Option MessageParts → List ℕ
request_note unknown None = unknown
request_note unknown (Some request) =
    if is_known_request (requested request) then known_request_note request else unknown

-- `request_line h request`: the line of a request: `-- `, the time of its capture, which is in the
-- packet header `h`, a space (32), what it asks for, and a line feed (10)
abbrev pub request_line : PacketHeader → MessageParts → List ℕ
request_line h request =
    codes "-- " ++ time_text h ++ 32 ∷ request_text request ++ 10 ∷ []

-- `request_line_if_selected o h request`: the line of a request if `--requests` is set and `--json`
-- is not, or else nothing
abbrev pub request_line_if_selected : Options → PacketHeader → MessageParts → List ℕ
request_line_if_selected o h request =
    if o.requests && not o.json then request_line h request else []
