-- Parsing of requests for IPv4 and IPv6 sockets, with their attributes.
use Rattle.std.specs.Prelude.{◌≡◌, ℕ, ◌==◌, ◌⊎◌, if◌then◌else◌, List, Option, Some, None}
use Rattle.std.specs.Prelude.{Result, Ok, Err, drop, option_map, unwrap_or}
use Rattle.std.specs.List.{filter_map, last_or}
use Rattle.netlink_core.specs.Attribute.{Attribute, HasAttributeError, DecodeTo, attribute_kind}
use Rattle.netlink_core.specs.Errors.{map_ok}
use Rattle.netlink_core.specs.Layout.{parse_record}
use Rattle.netlink_core.specs.Header.{HasHeader, IsMessageError, message_payload}
use Rattle.netlink_core.specs.Parse.{number_of_width}
use Rattle.netlink_core.specs.declared.error.DecodeError.{DecodeError}
use Rattle.netlink_core.specs.declared.error.DecodeError.TheVariants.{UnknownMessageType}
use Rattle.netlink_core.specs.declared.header.NetlinkHeader.{NetlinkHeader}
use Rattle.sock_diag_records.specs.InetRequest.{inet_request}
use Rattle.sock_diag_records.specs.declared.inet.request.InetRequest.{InetRequest}
use Rattle.sock_diag_records.specs.declared.constants.TheConstants.{SOCK_DESTROY}
use Rattle.sock_diag_records.specs.declared.constants.TheConstants.{SOCK_DIAG_BY_FAMILY}
use Rattle.sock_diag_records.specs.declared.inet.request.TheConstants.{INET_DIAG_REQ_BYTECODE}
use Rattle.sock_diag_records.specs.declared.inet.request.TheConstants.{INET_DIAG_REQ_PROTOCOL}
use Rattle.sock_diag_records.specs.declared.inet.request.TheConstants.{INET_REQUEST_LEN}
use Rattle.sock_diag_filters.specs.declared.request.RequestAttribute.{RequestAttribute}
use Rattle.sock_diag_filters.specs.declared.request.RequestAttribute.TheVariants.{Program, Protocol}
use Rattle.sock_diag_filters.specs.declared.view.Found.{Found}
use Rattle.sock_diag_filters.specs.declared.view.RequestView.{RequestView}

-- The content of an attribute: a program, a protocol, or nothing for other attribute types.
pub data RequestContent : Type 0 where
  program_content : List ℕ → RequestContent
  protocol_content : ℕ → RequestContent
  other_content : RequestContent

-- The content of an attribute, by its type without the two flag bits. INET_DIAG_REQ_BYTECODE is a
-- program: the bytes of the value. INET_DIAG_REQ_PROTOCOL is a protocol: a little-endian u32. A
-- length other than 4 is the error WrongLength, which does not name the type (`None`). Other types
-- have no content.
abbrev pub decode_request_attribute : Attribute → Result RequestContent DecodeError
decode_request_attribute a =
    if attribute_kind a == INET_DIAG_REQ_BYTECODE then Ok (program_content a.value)
    else if attribute_kind a == INET_DIAG_REQ_PROTOCOL
    then map_ok protocol_content (number_of_width None 4 a.value)
    else Ok other_content

-- The content of a `RequestAttribute`: the bytes of a program, or a protocol.
abbrev pub request_attribute_content : RequestAttribute → RequestContent
request_attribute_content (Program program) = program_content program.now
request_attribute_content (Protocol protocol) = protocol_content protocol

-- The program, if the content is one.
abbrev pub program_in : RequestContent → Option (List ℕ)
program_in (program_content program) = Some program
program_in (protocol_content protocol) = None
program_in other_content = None

-- The protocol, if the content is one.
abbrev pub protocol_in : RequestContent → Option ℕ
protocol_in (program_content program) = None
protocol_in (protocol_content protocol) = Some protocol
protocol_in other_content = None

-- The last program among the contents, `None` if there is none.
abbrev pub last_program : List RequestContent → Option (List ℕ)
last_program decoded = last_or None (filter_map program_in decoded)

-- The last protocol among the contents, `None` if there is none.
abbrev pub last_protocol : List RequestContent → Option ℕ
last_protocol decoded = last_or None (filter_map protocol_in decoded)

-- `HasLastContents found decoded`: `found` has the last program and the last protocol among the
-- contents `decoded`. `program.now` are the borrowed bytes.
pub record HasLastContents (found : Found) (decoded : List RequestContent) : Type 0 where
  pub program : option_map (λ program. program.now) found.program ≡ last_program decoded
  pub protocol : found.protocol ≡ last_protocol decoded

-- `attributes_after_record message h`: the bytes of the payload after the record,
-- `struct inet_diag_req_v2` of 56 bytes, where the attributes are.
abbrev pub attributes_after_record : List ℕ → NetlinkHeader → List ℕ
attributes_after_record message h = drop INET_REQUEST_LEN (message_payload message h)

-- The message type is SOCK_DIAG_BY_FAMILY or SOCK_DESTROY.
abbrev pub IsRequestType : ℕ → Type 0
IsRequestType message_type = (message_type ≡ SOCK_DIAG_BY_FAMILY) ⊎ (message_type ≡ SOCK_DESTROY)

-- `ParsesAsRequest message view`: the message at the start of the bytes parses as the view. Bytes
-- after it are ignored.
pub record ParsesAsRequest (message : List ℕ) (view : RequestView) : Type 0 where
  -- the message starts with the netlink header of the view
  pub framed : HasHeader message view.header
  pub kind : IsRequestType view.header.message_type
  -- the payload starts with the record of the view, `struct inet_diag_req_v2`
  pub parsed : parse_record inet_request tt (message_payload message view.header) ≡ Ok view.request
  -- the bytes after the record split into attributes with this content, in order
  -- (`DecodeTo decode bytes values`)
  pub decoded : List RequestContent
  pub decodes : DecodeTo decode_request_attribute (attributes_after_record message view.header)
      decoded
  -- the program of the view is the last program of the attributes, if there is one
  pub program : option_map (λ program. program.now) view.program ≡ last_program decoded
  -- the protocol of the view is the last protocol of the attributes, or the record's protocol if
  -- there is none
  pub protocol : view.protocol ≡ unwrap_or (last_protocol decoded) view.request.protocol

-- `IsRejectedRequest message e`: the message at the start of the bytes is rejected with `e`, its
-- first error. Each case states that there is no error of the cases before it. `h` is the netlink
-- header.
pub data IsRejectedRequest (message : List ℕ) (e : DecodeError) : Type 0 where
  -- the bytes do not start with a netlink message
  no_message : IsMessageError message e → IsRejectedRequest message e
  -- the message type is neither SOCK_DIAG_BY_FAMILY nor SOCK_DESTROY
  other_type : (h : NetlinkHeader) → HasHeader message h → ¬ IsRequestType h.message_type
      → e ≡ UnknownMessageType h.message_type → IsRejectedRequest message e
  -- the payload does not start with a valid `struct inet_diag_req_v2`
  no_request : (h : NetlinkHeader) → HasHeader message h → IsRequestType h.message_type
      → parse_record inet_request tt (message_payload message h) ≡ Err e
      → IsRejectedRequest message e
  -- the bytes after the record have an attribute that is invalid, or a framing error
  no_attributes : (h : NetlinkHeader) (request : InetRequest) → HasHeader message h
      → IsRequestType h.message_type
      → parse_record inet_request tt (message_payload message h) ≡ Ok request
      → HasAttributeError decode_request_attribute (attributes_after_record message h) e
      → IsRejectedRequest message e
