-- Serialized requests for IPv4 and IPv6 sockets, and what they parse as.
use Rattle.std.specs.Prelude.{◌≡◌, ◌+◌, ◌^◌, ◌<◌, ◌≤◌, length, map, option_map, unwrap_or}
use Rattle.std.specs.List.{AllByRecursion, flat_map}
use Rattle.netlink_core.specs.Attribute.{attribute_bytes}
use Rattle.netlink_core.specs.Layout.{IsNormal, IsInRange}
use Rattle.netlink_core.specs.Table.{FitFields}
use Rattle.netlink_core.specs.Header.{header_fields, header_values}
use Rattle.netlink_core.specs.declared.header.NetlinkHeader.{NetlinkHeader}
use Rattle.sock_diag_records.specs.InetRequest.{inet_request}
use Rattle.sock_diag_filters.specs.declared.request.TheConstants.{REQUEST_FRONT}
use Rattle.sock_diag_filters.specs.declared.request.RequestAttribute.{RequestAttribute}
use Rattle.sock_diag_filters.specs.declared.request.RequestAttribute.TheVariants.{Program, Protocol}
use Rattle.sock_diag_filters.specs.declared.request.RequestWithAttributes.{RequestWithAttributes}
use Rattle.sock_diag_filters.specs.declared.assembly.TheConstants.{MAX_PROGRAM}
use Rattle.sock_diag_filters.specs.declared.view.RequestView.{RequestView}
use Rattle.sock_diag_filters.specs.InetRequests.{last_program, last_protocol}
use Rattle.sock_diag_filters.specs.InetRequests.{request_attribute_content}
use Rattle.sock_diag_filters.specs.Requests.{request_attribute, header_with_length}

-- `serialized_request_header r`: the header that is serialized for the request `r`. Its length is
-- the length of the message: 72 bytes, of the netlink header and `struct inet_diag_req_v2`, and the
-- attributes with their padding.
abbrev pub serialized_request_header : RequestWithAttributes → NetlinkHeader
serialized_request_header r = header_with_length r.header
    (REQUEST_FRONT + length (flat_map attribute_bytes (map request_attribute r.attributes.now)))

-- The attribute fits: a program has at most 65,531 bytes, and a protocol is below 2^32.
abbrev pub IsRequestAttributeInRange : RequestAttribute → Type 0
IsRequestAttributeInRange (Program program) = length program.now ≤ MAX_PROGRAM
IsRequestAttributeInRange (Protocol protocol) = protocol < 2 ^ 32

-- `IsRequestInRange r`: each number of the header that is serialized, of the record and of the
-- attributes fits its field, and each program has at most 65,531 bytes. So the message is below
-- 2^32 bytes.
abbrev pub IsRequestInRange : RequestWithAttributes → Type 0
IsRequestInRange r = FitFields header_fields (header_values (serialized_request_header r))
    × IsInRange inet_request r.request × AllByRecursion IsRequestAttributeInRange r.attributes.now

-- `IsRoundTrippingRequest r`: the conditions under which the message of the request `r`
-- round-trips. The message type, which has to be that of a request, is not among them.
pub record IsRoundTrippingRequest (r : RequestWithAttributes) : Type 0 where
  pub in_range : IsRequestInRange r
  -- the record is in normal form
  pub normal : IsNormal inet_request tt r.request

-- `IsParsedRequest r view`: the view has the content of the request `r` that was serialized: the
-- header with the length of the message, the record, and the last program of the attributes, or
-- `None` if there is none. Its protocol is the last protocol of the attributes, or the record's
-- protocol if there is none.
pub record IsParsedRequest (r : RequestWithAttributes) (view : RequestView) : Type 0 where
  pub header : view.header ≡ serialized_request_header r
  pub same_request : view.request ≡ r.request
  pub program : option_map (λ program. program.now) view.program
      ≡ last_program (map request_attribute_content r.attributes.now)
  pub protocol : view.protocol ≡ unwrap_or
      (last_protocol (map request_attribute_content r.attributes.now)) r.request.protocol
