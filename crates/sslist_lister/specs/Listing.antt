-- The lines and diagnostics of messages, datagrams and packets of a capture. `b` is the payload of
-- a message. `list` is the number of the list of sockets that a reply belongs to (`PastRequests`),
-- and `requested` is the protocol of its request, None if it is not known.
use Rattle.std.specs.Prelude.{◌≡◌, ◌↔◌, Bool, true, false, IsTrue, ℕ, ℤ, pos, negsuc, ◌+◌}
use Rattle.std.specs.Prelude.{◌==◌, ◌&&◌, if◌then◌else◌, nat_le, nat_lt, List, [], ◌++◌}
use Rattle.std.specs.Prelude.{◌≤◌, ◌⊎◌}
use Rattle.std.specs.Prelude.{bit_and, drop, length, flat_map, is_none, Option, None, Some}
use Rattle.std.specs.Prelude.{option_map, MatchOption, Result, Ok, Err}
use Rattle.byteorder.specs.Endian.{big_number}
use Rattle.std.specs.List.{list_all}
use Rattle.std.specs.Option.{option_map_or}
use Rattle.netlink_captures.specs.Capture.{CapturedPacket}
use Rattle.netlink_captures.specs.Cooked.{IsOfSockDiag}
use Rattle.netlink_captures.specs.declared.captures.PacketHeader.{PacketHeader}
use Rattle.sslist_command_line.specs.declared.options.Options.{Options}
use Rattle.netlink_core.specs.Datagram.{SplitsIntoMessages}
use Rattle.netlink_core.specs.declared.header.NetlinkHeader.{NetlinkHeader}
use Rattle.netlink_core.specs.declared.error.DecodeError.{DecodeError}
use Rattle.netlink_core.specs.declared.error.DecodeError.TheVariants.{UnknownFamily}
use Rattle.netlink_core.specs.NetlinkMessage.{leading_error_number}
use Rattle.netlink_core.specs.declared.message.TheConstants.{NLM_F_DUMP_INTR, NLMSG_NOOP}
use Rattle.netlink_core.specs.declared.message.TheConstants.{NLMSG_OVERRUN}
use Rattle.sock_diag_extras.specs.declared.constants.TheConstants.{DCCPDIAG_GETSOCK}
use Rattle.sock_diag_extras.specs.declared.constants.TheConstants.{TCPDIAG_GETSOCK}
use Rattle.sslist_lister.specs.Collected.{summary_of}
use Rattle.sock_diag_any.specs.AnyHeader.{any_header, header_size, timer_at}
use Rattle.sock_diag_any.specs.Pieces.{framing_error_of, pieces_in}
use Rattle.sslist_lister.specs.Protocol.{protocol_in}
use Rattle.sslist_lister.specs.Sctp.{is_association}
use Rattle.sslist_lister.specs.Table.{inet_sockets}
use Rattle.sock_diag_any.specs.declared.header.AnyHeader.{AnyHeader}
use Rattle.sock_diag_any.specs.declared.header.AnyHeader.TheVariants as reply
use Rattle.sock_diag_any.specs.declared.header.RawTimer.{RawTimer}
use Rattle.sock_diag_any.specs.declared.nla.Sockets.TheVariants as about
use Rattle.sslist_lister.specs.Headings.{list_heading}
use Rattle.sslist_lister.specs.Lists.{is_repetition}
use Rattle.sslist_lister.specs.RequestLine.{request_line_if_selected}
use Rattle.sslist_lister.specs.Messages.{MessageParts, message_in, request_in}
use Rattle.sslist_lister.specs.Requests.{PastRequests, protocol_of, with_request}
use Rattle.sslist_lister.specs.declared.line.TheConstants.{HEADING}
use Rattle.sslist_lister.specs.declared.list.TheConstants.{EINVAL, ENOENT}
use Rattle.sslist_lister.specs.Others.{netlink_socket}
use Rattle.sslist_lister.specs.Others.{packet_socket, vsock_socket, xdp_socket}
use Rattle.sslist_lister.specs.JsonListing.{inet_output, other_output, unix_output}
use Rattle.sslist_lister.specs.JsonOthers.{netlink_header_members, packet_header_members}
use Rattle.sslist_lister.specs.JsonOthers.{vsock_header_members, xdp_header_members}
use Rattle.sock_diag_records.specs.declared.constants.TheConstants.{IPPROTO_DCCP}
use Rattle.sock_diag_records.specs.declared.inet.response.InetResponseHeader.{InetResponseHeader}
use Rattle.sslist_command_line.specs.declared.options.TheConstants.{IPPROTO_TCP}
use Rattle.sslist_lister.specs.declared.list.Diagnostic.{Diagnostic}
use Rattle.sslist_lister.specs.declared.list.Diagnostic.TheVariants.{Refused, Answered, Lost}
use Rattle.sslist_lister.specs.declared.list.Diagnostic.TheVariants.{Invalid, NoEntry}
use Rattle.sslist_lister.specs.declared.list.Diagnostic.TheVariants.{NoNumber}

-- ---- replies

-- `after_header b header`: the attributes of the reply with the payload `b`, which begins with this
-- header
abbrev pub after_header : List ℕ → AnyHeader → List ℕ
after_header b header = drop (header_size header) b

-- `inet_reply_lines o list requested header timer bytes`: the lines of a reply about an IPv4 or
-- IPv6 socket with this header, this timer and the attributes in the bytes. They are read as those
-- of a socket of the protocol `requested` first, which finds the protocol of the socket and whether
-- it is an association, and then by these.
abbrev pub inet_reply_lines : Options → ℕ → Option ℕ → InetResponseHeader → RawTimer → List ℕ
    → List ℕ
inet_reply_lines o list requested header timer bytes =
    let found = summary_of (inet_sockets requested false) bytes in
    let protocol = protocol_in requested found in
    let associated = is_association protocol found in
    inet_output o list (record {
      protocol = protocol;
      is_association = associated;
      timer = timer;
      header = header;
    }) (summary_of (inet_sockets protocol associated) bytes)

-- `header_lines o list requested b header`: the lines of the reply with the payload `b`, which
-- begins with this header
abbrev pub header_lines : Options → ℕ → Option ℕ → List ℕ → AnyHeader → List ℕ
header_lines o list requested b (reply.Unix h) =
    unix_output o list h (summary_of about.Unix (after_header b (reply.Unix h)))
header_lines o list requested b (reply.Inet h) =
    inet_reply_lines o list requested h (timer_at b) (after_header b (reply.Inet h))
header_lines o list requested b (reply.Netlink h) =
    let s = summary_of about.Netlink (after_header b (reply.Netlink h)) in
    other_output o list (netlink_socket h s) (netlink_header_members h) s
header_lines o list requested b (reply.Packet h) =
    let s = summary_of about.Packet (after_header b (reply.Packet h)) in
    other_output o list (packet_socket h s) (packet_header_members h) s
header_lines o list requested b (reply.Vsock h) =
    let s = summary_of about.Vsock (after_header b (reply.Vsock h)) in
    other_output o list (vsock_socket h s) (vsock_header_members h) s
header_lines o list requested b (reply.Xdp h) =
    let s = summary_of about.Xdp (after_header b (reply.Xdp h)) in
    other_output o list (xdp_socket h s) (xdp_header_members h) s

-- `reply_lines o list requested b header`: the lines of the payload `b`, in the list of the number
-- `list`. It begins with this header (`any_header`), or there are none (Err).
abbrev pub reply_lines : Options → ℕ → Option ℕ → List ℕ → Result AnyHeader DecodeError → List ℕ
reply_lines o list requested b (Ok header) = header_lines o list requested b header
reply_lines o list requested b (Err e) = []

-- `reply_error b header`: the decode error of the payload `b`, which begins with this header: of
-- the header (Err), or else of the bytes after the last attribute; None if there is none. An
-- invalid value of an attribute is not considered, and a reply about a socket of an unknown family
-- is not checked.
abbrev pub reply_error : List ℕ → Result AnyHeader DecodeError → Option DecodeError
reply_error b (Ok header) = framing_error_of (pieces_in (after_header b header))
reply_error b (Err (UnknownFamily n)) = None
reply_error b (Err e) = Some e

-- ---- messages

-- `is_control t`: the type `t` is the one of a control message: NLMSG_NOOP, NLMSG_ERROR, NLMSG_DONE
-- or NLMSG_OVERRUN, which are the numbers 1 to 4
abbrev pub is_control : ℕ → Bool
is_control t = nat_le NLMSG_NOOP t && nat_le t NLMSG_OVERRUN

-- `requested_protocol past h`: the protocol that the request of a reply with the header `h` is for,
-- if it is known: that of its type, TCPDIAG_GETSOCK or DCCPDIAG_GETSOCK, or else that of one of the
-- requests `past`
abbrev pub requested_protocol : PastRequests → NetlinkHeader → Option ℕ
requested_protocol past h =
    if h.message_type == TCPDIAG_GETSOCK then Some IPPROTO_TCP
    else if h.message_type == DCCPDIAG_GETSOCK then Some IPPROTO_DCCP
    else protocol_of past.queries h.sequence_number h.port_number

-- `message_lines o past m`: the lines of the message `m`, which may answer one of the requests
-- `past`. A control message has none.
abbrev pub message_lines : Options → PastRequests → MessageParts → List ℕ
message_lines o past m =
    if is_control m.header.message_type then []
    else reply_lines o past.list (requested_protocol past m.header) m.payload
    (any_header m.payload m.header.message_type)

-- the diagnostic of an error number of errno(3): a note for ENOENT and EINVAL, or else an error
abbrev pub errno_diagnostic : ℕ → Diagnostic
errno_diagnostic errno =
    if errno == ENOENT then NoEntry else if errno == EINVAL then Invalid else Answered errno

-- the diagnostic of an NLMSG_ERROR or NLMSG_DONE with this number: a negated number of errno(3), or
-- else no error. None: the message is too short for a number. `negsuc n` is the number -(n + 1).
abbrev pub answer_diagnostic : Option ℤ → Option Diagnostic
answer_diagnostic None = Some NoNumber
answer_diagnostic (Some (pos n)) = None
answer_diagnostic (Some (negsuc n)) = Some (errno_diagnostic (n + 1))

-- `control_diagnostic t payload`: the diagnostic of a control message: none for NLMSG_NOOP, Lost
-- for NLMSG_OVERRUN; for NLMSG_ERROR and NLMSG_DONE that of the number at the start of the payload
abbrev pub control_diagnostic : ℕ → List ℕ → Option Diagnostic
control_diagnostic t payload =
    if t == NLMSG_NOOP then None else if t == NLMSG_OVERRUN then Some Lost
    else answer_diagnostic (leading_error_number payload)

-- `message_diagnostic t payload`: the diagnostic of a message with the type `t` and this payload,
-- except for Interrupted: that of a control message, or the decode error of any other message
-- (Refused)
abbrev pub message_diagnostic : ℕ → List ℕ → Option Diagnostic
message_diagnostic t payload =
    if is_control t then control_diagnostic t payload
    else option_map Refused (reply_error payload (any_header payload t))

-- there is no diagnostic, or it is one of the two notes: NoEntry or Invalid
abbrev pub is_informational_or_none : Option Diagnostic → Bool
is_informational_or_none None = true
is_informational_or_none (Some NoEntry) = true
is_informational_or_none (Some Invalid) = true
is_informational_or_none (Some diagnostic) = false

-- the message has neither the flag NLM_F_DUMP_INTR nor a diagnostic, except for a note
abbrev pub is_clean_message : MessageParts → Bool
is_clean_message m = (bit_and m.header.flags NLM_F_DUMP_INTR == 0)
    && is_informational_or_none (message_diagnostic m.header.message_type m.payload)

-- ---- datagrams and packets

-- `IsSockDiag packet`: the packet has a cooked header, its first 16 bytes, which is one of
-- sock_diag(7): the hardware type at 2 is 824, and the protocol at 14 is 4 (`IsOfSockDiag`)
abbrev pub IsSockDiag : List ℕ → Type 0
IsSockDiag packet = (16 ≤ length packet) × IsOfSockDiag packet

-- `ListsMessages o past datagram before after is_clean`: the text `after` is the text `before` and
-- the lines of each message of a datagram, in order. `is_clean` is true if each message is clean
-- and nothing follows the last one, or else false. `past` are the requests that the messages may
-- answer.
pub record ListsMessages (o : Options) (past : PastRequests) (datagram before after : List ℕ)
    (is_clean : Bool) : Type 0 where
  -- the messages of the datagram, without the padding between them
  pub messages : List (List ℕ)
  -- the error of the bytes after the last message, if there are any
  pub end : Option DecodeError
  -- the datagram consists of these messages and of the bytes with this error
  pub cut : SplitsIntoMessages datagram messages end
  pub lines : after ≡ before ++ flat_map (λ m. message_lines o past (message_in m)) messages
  pub clean : is_clean
      ≡ (list_all (λ m. is_clean_message (message_in m)) messages && is_none end)

-- `request_lines o past header request`: the lines of a request. If the request repeats the first
-- one of the earlier requests `past`, they begin with the text that begins another list of sockets.
-- Its own line follows, if `--requests` is set and `--json` is not. `header` is the packet header,
-- with the time of capture.
abbrev pub request_lines : Options → PastRequests → PacketHeader → MessageParts → List ℕ
request_lines o past header request =
    list_heading o header HEADING.now (is_repetition past.first request)
    ++ request_line_if_selected o header request

-- `ListsDatagram o past header datagram before after is_clean`: the text `after` is the text
-- `before` and the lines of a datagram. If it begins with a request, these are the lines of the
-- request, and the datagram is clean. Else they are those of its messages. `past` are the requests
-- before the datagram.
abbrev pub ListsDatagram : Options → PastRequests → PacketHeader → List ℕ → List ℕ → List ℕ → Bool
    → Type 0
ListsDatagram o past header datagram before after is_clean = MatchOption (request_in datagram)
    (ListsMessages o past datagram before after is_clean)
    (λ request. (after ≡ before ++ request_lines o past header request) × (is_clean ≡ true))

-- the requests after a datagram: if it begins with a request, that is added
abbrev pub requests_after_datagram : PastRequests → List ℕ → PastRequests
requests_after_datagram past datagram =
    option_map_or (λ request. with_request request past) (request_in datagram) past

-- `requests_after_packet past packet`: the requests after a packet. If its cooked header, the first
-- 16 bytes, is one of sock_diag(7), the request that its datagram begins with is added, if there is
-- one. Such a header has the hardware type 824 at 2 and the protocol 4 at 14, both big-endian.
unfoldable pub requests_after_packet : PastRequests → List ℕ → PastRequests
requests_after_packet past packet =
    if nat_lt (length packet) 16 then past
    else if (big_number 2 (drop 2 packet) == 824) && (big_number 2 (drop 14 packet) == 4)
    then requests_after_datagram past (drop 16 packet) else past

-- `ListsPacket o past packet before after is_clean`: the text `after` is the text `before` and the
-- lines of a packet: those of its datagram if it is one of sock_diag(7), or else none. A packet of
-- another protocol is clean, and a packet with fewer than 16 bytes is not. A truncated packet may
-- be clean. `past` are the requests before the packet.
abbrev pub ListsPacket : Options → PastRequests → CapturedPacket → List ℕ → List ℕ → Bool → Type 0
ListsPacket o past packet before after is_clean =
    (IsSockDiag packet.bytes
    × ListsDatagram o past packet.header (drop 16 packet.bytes) before after is_clean)
    ⊎ ((¬ IsSockDiag packet.bytes) × (after ≡ before)
    × (IsTrue is_clean ↔ (16 ≤ length packet.bytes)))

-- `ListsCapturedPacket o past packet before after is_whole`: the text `after` is the text `before`
-- and the lines of the packet. `is_whole` is true if and only if the packet was listed without
-- errors: it is clean and was not truncated, so it has at least as many bytes as its original
-- length.
abbrev pub ListsCapturedPacket : Options → PastRequests → CapturedPacket → List ℕ → List ℕ → Bool
    → Type 0
ListsCapturedPacket o past packet before after is_whole =
    (is_clean : Bool) × ListsPacket o past packet before after is_clean
    × (IsTrue is_whole ↔ (IsTrue is_clean × (packet.header.whole_length ≤ length packet.bytes)))
