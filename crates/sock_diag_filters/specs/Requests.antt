-- Requests for IPv4 and IPv6 sockets with attributes (linux/inet_diag.h).
use Rattle.std.specs.Prelude.{ℕ, ◌+◌, List, ◌++◌, length, map}
use Rattle.std.specs.List.{flat_map}
use Rattle.byteorder.specs.Endian.{little_bytes}
use Rattle.netlink_core.specs.Attribute.{Attribute, attribute_bytes}
use Rattle.netlink_core.specs.declared.header.NetlinkHeader.{NetlinkHeader}
use Rattle.netlink_core.specs.Layout.{record_bytes}
use Rattle.netlink_core.specs.Header.{header_bytes}
use Rattle.sock_diag_records.specs.InetRequest.{inet_request}
use Rattle.sock_diag_records.specs.declared.inet.request.InetRequest.{InetRequest}
use Rattle.sock_diag_records.specs.declared.inet.request.TheConstants as c
use Rattle.sock_diag_filters.specs.declared.request.TheConstants.{REQUEST_FRONT}
use Rattle.sock_diag_filters.specs.declared.request.RequestAttribute.{RequestAttribute}
use Rattle.sock_diag_filters.specs.declared.request.RequestAttribute.TheVariants.{Program, Protocol}
use Rattle.sock_diag_filters.specs.declared.request.RequestWithAttributes.{RequestWithAttributes}

-- The attribute of a request: INET_DIAG_REQ_BYTECODE with the bytes of a program, or
-- INET_DIAG_REQ_PROTOCOL with the protocol as a little-endian u32.
abbrev pub request_attribute : RequestAttribute → Attribute
request_attribute (Program program) =
    record { type_word = c.INET_DIAG_REQ_BYTECODE; value = program.now }
request_attribute (Protocol protocol) =
    record { type_word = c.INET_DIAG_REQ_PROTOCOL; value = little_bytes 4 protocol }

-- `header_with_length h len`: the header `h` with its length replaced by `len`.
abbrev pub header_with_length : NetlinkHeader → ℕ → NetlinkHeader
header_with_length h len = record h { length = len }

-- `request_bytes h request attributes`: the bytes of the message: 16 of the header `h`, whose
-- length is replaced by the length of the message; 56 of the request, `struct inet_diag_req_v2`;
-- and the attributes, each with its padding.
abbrev pub request_bytes : NetlinkHeader → InetRequest → List Attribute → List ℕ
request_bytes h request attributes =
    header_bytes
    (header_with_length h (REQUEST_FRONT + length (flat_map attribute_bytes attributes)))
    ++ record_bytes inet_request request ++ flat_map attribute_bytes attributes

-- `request_message r`: the bytes of the message of the request `r`, with its attributes.
abbrev pub request_message : RequestWithAttributes → List ℕ
request_message r = request_bytes r.header r.request (map request_attribute r.attributes.now)
