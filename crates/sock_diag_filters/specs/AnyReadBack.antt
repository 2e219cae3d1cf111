-- Serialized requests for sockets of any family, and what they parse as.
use Rattle.std.specs.Prelude.{◌≡◌, ℕ, ◌+◌, List, ◌++◌, length}
use Rattle.netlink_core.specs.Table.{FitFields}
use Rattle.netlink_core.specs.Header.{header_bytes, header_fields, header_values}
use Rattle.netlink_core.specs.declared.header.TheConstants.{NETLINK_HEADER_LEN}
use Rattle.sock_diag_filters.specs.declared.request.RequestWithAttributes.{RequestWithAttributes}
use Rattle.sock_diag_filters.specs.AnyRequest.{AnyRequest, RecordFamily, RecordRequest, of_family}
use Rattle.sock_diag_filters.specs.AnyRequest.{of_inet, record_request_codec, record_request_size}
use Rattle.sock_diag_filters.specs.InetRequests.{IsRequestType}
use Rattle.sock_diag_filters.specs.ReadBack.{IsParsedRequest}

-- `record_request_bytes r`: the bytes of the message of the request `r`, whose family is neither
-- IPv4 nor IPv6: its netlink header unchanged, its record, and the bytes after the record.
abbrev pub record_request_bytes : {family : RecordFamily} → RecordRequest family → List ℕ
record_request_bytes {family} r =
    header_bytes r.header ++ ((record_request_codec family).bytes r.request ++ r.attributes)

-- `IsCompleteRecordRequest r`: the conditions under which the message of the request `r`, whose
-- family has one record, is a complete request and round-trips: it is accepted, and parses as `r`.
pub record IsCompleteRecordRequest {family : RecordFamily} (r : RecordRequest family)
    : Type 0 where
  -- each number of the header fits its field
  pub header : FitFields header_fields (header_values r.header)
  pub kind : IsRequestType r.header.message_type
  -- the length in the header is the length of the message
  pub counted : r.header.length
      ≡ NETLINK_HEADER_LEN + (record_request_size family + length r.attributes)
  -- each number of the record fits its field
  pub in_range : (record_request_codec family).is_in_range r.request
  -- the record is in normal form
  pub normal : (record_request_codec family).is_normal tt r.request

-- `IsParsedInetRequest r parsed`: the parsed request is one for IPv4 or IPv6 sockets, and has the
-- content of the request `r` that was serialized (`IsParsedRequest`).
abbrev pub IsParsedInetRequest : RequestWithAttributes → AnyRequest → Type 0
IsParsedInetRequest r (of_inet view) = IsParsedRequest r view
IsParsedInetRequest r (of_family family other) = ⊥
