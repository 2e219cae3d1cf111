-- Requests (sock_diag(7)) for sockets of any family that this crate parses.
use Rattle.std.specs.Prelude.{◌≡◌, ℕ, ◌==◌, ◌||◌, not, nat_lt, if◌then◌else◌, ◌⊎◌, List, length}
use Rattle.std.specs.Prelude.{drop, slice_index, Result, Ok, Err}
use Rattle.netlink_core.specs.Header.{HasHeader, IsMessageError, message_payload}
use Rattle.netlink_core.specs.ValueCodec.{ValueCodec, value_codec}
use Rattle.netlink_core.specs.declared.error.DecodeError.{DecodeError}
use Rattle.netlink_core.specs.declared.error.DecodeError.TheVariants as errors
use Rattle.netlink_core.specs.declared.header.NetlinkHeader.{NetlinkHeader}
use Rattle.sock_diag_records.specs.UnixRequest.{unix_request}
use Rattle.sock_diag_families.specs.ShowRequest.{show_request}
use Rattle.sock_diag_families.specs.VsockRequest.{vsock_request}
use Rattle.sock_diag_records.specs.declared.constants.TheConstants as c
use Rattle.sock_diag_families.specs.declared.vsock.TheConstants.{AF_VSOCK}
use Rattle.sock_diag_families.specs.declared.xdp.TheConstants.{AF_XDP}
use Rattle.sock_diag_filters.specs.declared.any.AnyRequestView.{AnyRequestView}
use Rattle.sock_diag_filters.specs.declared.any.AnyRequestView.TheVariants as view
use Rattle.sock_diag_filters.specs.declared.any.RecordRequestView.{RecordRequestView}
use Rattle.sock_diag_filters.specs.declared.view.RequestView.{RequestView}
use Rattle.sock_diag_filters.specs.InetRequests.{ParsesAsRequest, IsRejectedRequest}

-- The families other than IPv4 and IPv6.
pub data RecordFamily : Type 0 where
  unix netlink packet vsock xdp : RecordFamily

-- `record_request_codec family`: the codec of the family's record. The argument of `show_request`
-- is the family.
abbrev pub record_request_codec : RecordFamily → ValueCodec (Unit {0})
record_request_codec unix = value_codec unix_request
record_request_codec netlink = value_codec (show_request c.AF_NETLINK)
record_request_codec packet = value_codec (show_request c.AF_PACKET)
record_request_codec vsock = value_codec vsock_request
record_request_codec xdp = value_codec (show_request AF_XDP)

-- `record_request_size family`: the size of the family's record in bytes: of
-- `struct unix_diag_req`, `netlink_diag_req`, `packet_diag_req`, `vsock_diag_req` and
-- `xdp_diag_req`.
abbrev pub record_request_size : RecordFamily → ℕ
record_request_size unix = 24
record_request_size netlink = 20
record_request_size packet = 20
record_request_size vsock = 24
record_request_size xdp = 20

-- The family of a request: `inet` for IPv4 and IPv6, or another family.
pub data RequestedFamily : Type 0 where
  inet : RequestedFamily
  of_record : RecordFamily → RequestedFamily

-- `family_by_byte first`: the family of a request whose payload begins with the byte `first`. Any
-- byte other than these seven is the error UnknownFamily.
abbrev pub family_by_byte : ℕ → Result RequestedFamily DecodeError
family_by_byte first =
    if (first == c.AF_INET) || (first == c.AF_INET6) then Ok inet
    else if first == c.AF_UNIX then Ok (of_record unix)
    else if first == c.AF_NETLINK then Ok (of_record netlink)
    else if first == c.AF_PACKET then Ok (of_record packet)
    else if first == AF_VSOCK then Ok (of_record vsock)
    else if first == AF_XDP then Ok (of_record xdp)
    else Err (errors.UnknownFamily first)

-- `family_of_request_payload payload message_type`: the family of a request with this payload and
-- this message type, by the first byte of the payload; or its first error:
-- 1. MessageTooShort if the payload has fewer than 2 bytes, the size of `struct sock_diag_req`;
-- 2. UnknownMessageType if the type is neither SOCK_DIAG_BY_FAMILY nor SOCK_DESTROY;
-- 3. UnknownFamily if the first byte is not one of the seven families.
abbrev pub family_of_request_payload : List ℕ → ℕ → Result RequestedFamily DecodeError
family_of_request_payload payload message_type =
    if nat_lt (length payload) 2 then Err (errors.MessageTooShort (length payload))
    else if not ((message_type == c.SOCK_DIAG_BY_FAMILY) || (message_type == c.SOCK_DESTROY))
    then Err (errors.UnknownMessageType message_type)
    else family_by_byte (slice_index payload 0)

-- `family_of_message message h`: the family of the request that the bytes `message` begin with,
-- whose netlink header is `h`; or its first error.
abbrev pub family_of_message : List ℕ → NetlinkHeader → Result RequestedFamily DecodeError
family_of_message message h = family_of_request_payload (message_payload message h) h.message_type

-- A request of a family with one record: the netlink header, the record, and the bytes after the
-- record, where attributes may be.
pub record RecordRequest (family : RecordFamily) : Type 0 where
  pub header : NetlinkHeader
  pub request : (record_request_codec family).Value
  pub attributes : List ℕ

-- A parsed request: a `RequestView` for IPv4 and IPv6 sockets, or a request of another family.
pub data AnyRequest : Type 0 where
  of_inet : RequestView → AnyRequest
  of_family : (family : RecordFamily) → RecordRequest family → AnyRequest

-- `record_request_content family v`: the request of this family in a view, with its borrowed
-- attributes as a list of bytes.
abbrev pub record_request_content : (family : RecordFamily)
    → RecordRequestView (record_request_codec family).Value → AnyRequest
record_request_content family v = of_family family (record {
  header = v.header;
  request = v.request;
  attributes = v.attributes.now;
})

-- The request in an `AnyRequestView`.
abbrev pub any_request_content : AnyRequestView → AnyRequest
any_request_content (view.Inet v) = of_inet v
any_request_content (view.Unix v) = record_request_content unix v
any_request_content (view.Netlink v) = record_request_content netlink v
any_request_content (view.Packet v) = record_request_content packet v
any_request_content (view.Vsock v) = record_request_content vsock v
any_request_content (view.Xdp v) = record_request_content xdp v

-- `ParsesAsAnyRequest message request`: the bytes `message` begin with a netlink message that
-- parses as the request. Bytes after this message are ignored. Its header is the header of the
-- request, and its family is the family of the request. For IPv4 and IPv6, the message parses as
-- the `RequestView`. For another family, its payload begins with the record of the request, and the
-- attributes are the other bytes of the payload.
abbrev pub ParsesAsAnyRequest : List ℕ → AnyRequest → Type 0
ParsesAsAnyRequest message (of_inet v) =
    (family_of_message message v.header ≡ Ok inet) × ParsesAsRequest message v
ParsesAsAnyRequest message (of_family family r) =
    HasHeader message r.header × (family_of_message message r.header ≡ Ok (of_record family))
    × ((record_request_codec family).parses tt (message_payload message r.header) ≡ Ok r.request)
    × (r.attributes ≡ drop (record_request_size family) (message_payload message r.header))

-- `IsRejectedByFamily message h e`: the message with the netlink header `h` is rejected with the
-- error `e`. There are three cases. It has no family, and `e` is the error of `family_of_message`.
-- Its family is IPv4 and IPv6, and the parser of `RequestView` rejects it. Its family is another
-- one, and the parser of that family's record rejects the payload.
abbrev pub IsRejectedByFamily : List ℕ → NetlinkHeader → DecodeError → Type 0
IsRejectedByFamily message h e =
    (family_of_message message h ≡ Err e)
    ⊎ (((family_of_message message h ≡ Ok inet) × IsRejectedRequest message e)
    ⊎ ((family : RecordFamily) × (family_of_message message h ≡ Ok (of_record family))
    × ((record_request_codec family).parses tt (message_payload message h) ≡ Err e)))

-- `IsRejectedAnyRequest message e`: the bytes `message` are rejected with `e`, their first error.
-- Either they do not begin with a netlink message; or they begin with one, whose header is `h`, and
-- this message is rejected.
abbrev pub IsRejectedAnyRequest : List ℕ → DecodeError → Type 0
IsRejectedAnyRequest message e = IsMessageError message e
    ⊎ ((h : NetlinkHeader) × HasHeader message h × IsRejectedByFamily message h e)
