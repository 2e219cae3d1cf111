-- The answers of the kernel for tests.
use Rattle.std.specs.Prelude.{◌≡◌, ◌≢◌, ℕ, ◌+◌, ◌-◌, ◌≤◌, List, [], ◌∷◌, ◌++◌, length, map, take}
use Rattle.std.specs.Prelude.{drop, Result, Ok, Err, Some, pos}
use Rattle.std.specs.List.{AllByRecursion, flat_map}
use Rattle.netlink_core.specs.declared.header.NetlinkHeader.{NetlinkHeader}
use Rattle.netlink_core.specs.declared.header.TheConstants.{NETLINK_HEADER_LEN}
use Rattle.netlink_core.specs.declared.message.TheConstants.{NLM_F_MULTI}
use Rattle.netlink_core.specs.declared.error.DecodeError.{DecodeError}
use Rattle.netlink_core.specs.declared.error.DecodeError.TheVariants.{UnknownMessageType}
use Rattle.netlink_core.specs.Header.{HasHeader, IsMessageError}
use Rattle.netlink_core.specs.NetlinkMessage.{Payload, HoldsOfInnerMessage, payload_bytes}
use Rattle.netlink_core.specs.declared.message.NetlinkPayload.TheVariants as netlink
use Rattle.netlink_core.specs.NetlinkMessage.{payload_type}
use Rattle.netlink_core.specs.Layout.{parse_record}
use Rattle.sock_diag_records.specs.declared.unix.request.UnixRequest.{UnixRequest}
use Rattle.sock_diag_records.specs.UnixRequest.{unix_request}
use Rattle.sock_diag_records.specs.declared.constants.TheConstants.{SOCK_DIAG_BY_FAMILY}
use Rattle.netlink_core.specs.Response.{ReplyValue, response_bytes, response_codec}
use Rattle.netlink_packet_sock_diag.specs.declared.dump.DumpState.TheVariants.{Done}
use Rattle.netlink_core.specs.Items.{IsItemOf}
use Rattle.netlink_packet_sock_diag.specs.Dump.{DumpOfDatagrams}
use Rattle.netlink_packet_sock_diag.specs.Message.{Message, message_of, message_codec}
use Rattle.netlink_packet_sock_diag.specs.Message.{netlink_message_codec}
use Rattle.sock_diag_records.specs.ResponseKind.{unix_response}
use Rattle.sock_diag_replies.specs.UnixResponseSpec.{unix_response_spec}
use Rattle.sock_diag_examples.specs.declared.test_kernel.AnswerError.{AnswerError}
use Rattle.sock_diag_examples.specs.declared.test_kernel.AnswerError.TheVariants as errors

-- `numbered_message_bytes sequence_number payload`: the bytes of the netlink message with this
-- payload and sequence number. Its length and its type are those of the payload
-- (SOCK_DIAG_BY_FAMILY for an inner message), its flags are NLM_F_MULTI (one of several messages),
-- and its port id is 0.
unfoldable pub numbered_message_bytes : ℕ → Payload Message → List ℕ
numbered_message_bytes sequence_number payload = netlink_message_codec.serialized (record {
  header = record {
    length = NETLINK_HEADER_LEN + length (payload_bytes message_codec.serialized payload);
    message_type = payload_type (λ _. SOCK_DIAG_BY_FAMILY) payload;
    flags = NLM_F_MULTI;
    sequence_number = sequence_number;
    port_number = 0;
  };
  payload = payload;
})

-- `reply_message_bytes sequence_number reply`: the message of a reply. Its length is a multiple of
-- 4, so it has no padding.
abbrev pub reply_message_bytes : ℕ → ReplyValue unix_response_spec → List ℕ
reply_message_bytes sequence_number reply =
    numbered_message_bytes sequence_number (netlink.InnerMessage (message_of unix_response reply))

-- `done_message_bytes sequence_number`: an NLMSG_DONE with error number 0, four zero bytes
abbrev pub done_message_bytes : ℕ → List ℕ
done_message_bytes sequence_number =
    numbered_message_bytes sequence_number (netlink.Done (0 ∷ 0 ∷ 0 ∷ 0 ∷ []))

-- `parsed_request header bytes`: the payload of the netlink message with this header at the start
-- of the bytes, parsed as a request for UNIX sockets. It follows the 16 bytes of the header, up to
-- the length of the message.
abbrev pub parsed_request : NetlinkHeader → List ℕ → Result UnixRequest DecodeError
parsed_request header bytes =
    parse_record unix_request tt (take (header.length - 16) (drop 16 bytes))

-- `IsAnswer request replies datagram`: the request starts with a netlink message of type
-- SOCK_DIAG_BY_FAMILY, whose payload parses as a request for UNIX sockets. The datagram is the
-- messages of the replies, in order, and then NLMSG_DONE, all with the sequence number of the
-- request.
pub record IsAnswer (request : List ℕ) (replies : List (ReplyValue unix_response_spec))
    (datagram : List ℕ) : Type 0 where
  -- the netlink header of the request
  pub header : NetlinkHeader
  -- the request for UNIX sockets; it does not select among the replies
  pub requested : UnixRequest
  pub has_header : HasHeader request header
  pub has_type : header.message_type ≡ SOCK_DIAG_BY_FAMILY
  pub parses : parsed_request header request ≡ Ok requested
  -- one message for each reply, then the end
  pub serialized : datagram ≡ flat_map (reply_message_bytes header.sequence_number) replies
      ++ done_message_bytes header.sequence_number

-- `RejectsUnixRequest request e`: the request is rejected with the error `e`, for one of these
-- reasons:
-- - `no_message`: its bytes do not start with a netlink message.
-- - `other_type`: the message has another type than SOCK_DIAG_BY_FAMILY.
-- - `no_request`: its payload is rejected as a request for UNIX sockets.
pub data RejectsUnixRequest (request : List ℕ) (e : DecodeError) : Type 0 where
  no_message : IsMessageError request e → RejectsUnixRequest request e
  other_type : (h : NetlinkHeader) → HasHeader request h → h.message_type ≢ SOCK_DIAG_BY_FAMILY
      → e ≡ UnknownMessageType h.message_type → RejectsUnixRequest request e
  no_request : (h : NetlinkHeader) → HasHeader request h → h.message_type ≡ SOCK_DIAG_BY_FAMILY
      → parsed_request h request ≡ Err e
      → RejectsUnixRequest request e

-- `IsWritableMessage payload`: a message with this payload is writable: its inner message is
-- writable, if it has one, and its length, 16 bytes more than the payload, fits `nlmsg_len`
abbrev pub IsWritableMessage : Payload Message → Type 0
IsWritableMessage payload = HoldsOfInnerMessage message_codec.is_writable payload
    × (16 + length (payload_bytes message_codec.serialized payload) ≤ 4294967295)

-- `IsWritableReplyMessage reply`: the message of the reply is writable
abbrev pub IsWritableReplyMessage : ReplyValue unix_response_spec → Type 0
IsWritableReplyMessage reply =
    IsWritableMessage (netlink.InnerMessage (message_of unix_response reply))

-- `IsUnixRequestMessage request`: the request starts with a netlink message of type
-- SOCK_DIAG_BY_FAMILY whose payload parses as a request for UNIX sockets
abbrev pub IsUnixRequestMessage : List ℕ → Type 0
IsUnixRequestMessage request = (h : NetlinkHeader) × (requested : UnixRequest)
    × HasHeader request h × (h.message_type ≡ SOCK_DIAG_BY_FAMILY)
    × (parsed_request h request ≡ Ok requested)

-- `AnswerFails request replies error`: what holds if `answer` returns this error:
-- - `Request e`: the request is rejected with `e`.
-- - `Unwritable`: the request is accepted, and the message of some reply is not writable.
-- - `Memory`: the request is accepted.
abbrev pub AnswerFails : List ℕ → List (ReplyValue unix_response_spec) → AnswerError → Type 0
AnswerFails request replies (errors.Request e) = RejectsUnixRequest request e
AnswerFails request replies errors.Unwritable =
    IsUnixRequestMessage request × ¬ AllByRecursion IsWritableReplyMessage replies
AnswerFails request replies errors.Memory = IsUnixRequestMessage request

-- `IsWritableReply reply`: a reply as parsers return it, whose message is writable.
pub record IsWritableReply (reply : ReplyValue unix_response_spec) : Type 0 where
  -- each number fits its field
  pub is_in_range : (response_codec unix_response_spec).is_in_range reply
  pub is_normal : (response_codec unix_response_spec).is_normal tt reply
  -- each attribute fits `nla_len`, and the reply has at most 4,294,967,295 bytes
  pub is_writable : (response_codec unix_response_spec).is_writable reply
  -- the message, with its header of 16 bytes, fits `nlmsg_len`
  pub fits_length_field : 16 + length (response_bytes unix_response_spec reply) ≤ 4294967295

-- `IsCompleteDump datagram replies`: the dump over this datagram has exactly these replies as
-- messages: none before it (`[]`), and no other ones. It ends with NLMSG_DONE and error number 0
-- (`pos 0`).
pub record IsCompleteDump (datagram : List ℕ) (replies : List (ReplyValue unix_response_spec))
    : Type 0 where
  pub dump : DumpOfDatagrams (IsItemOf message_codec) ([], datagram ∷ [])
      (map (message_of unix_response) replies, Ok (Done, Some (pos 0)))
