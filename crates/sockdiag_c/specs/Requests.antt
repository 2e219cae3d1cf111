-- The bytes of requests for UNIX and internet sockets.
use Rattle.std.specs.Prelude.{◌≡◌, ℕ, ◌⊎◌, ◌+◌, ◌<◌, ◌≤◌, ◌==◌, nat_lt, if◌then◌else◌, List}
use Rattle.std.specs.Prelude.{[], ◌∷◌, ◌++◌, length, drop, replicate, slice_index}
use Rattle.byteorder.specs.Endian.{little_bytes}
use Rattle.std.specs.declared.net.ip_addr.IpAddr.{IpAddr}
use Rattle.std.specs.declared.net.ip_addr.IpAddr.TheVariants.{V4, V6}
use Rattle.std.specs.Net.Addr.{segments_of}
use Rattle.netlink_core.specs.declared.header.NetlinkHeader.{NetlinkHeader}
use Rattle.netlink_core.specs.Attribute.{Attribute, SplitsUntilError, IsFramingError}
use Rattle.netlink_core.specs.Attribute.{SplitsIntoAttributes}
use Rattle.netlink_core.specs.Attribute.{padding_length, attribute_bytes}
use Rattle.netlink_core.specs.declared.error.DecodeError.{DecodeError}
use Rattle.netlink_core.specs.declared.error.DecodeError.TheVariants.{UnsupportedFamily}
use Rattle.netlink_core.specs.Errors.{error_code}
use Rattle.netlink_core.specs.Layout.{record_bytes}
use Rattle.netlink_core.specs.Header.{header_bytes}
use Rattle.sock_diag_records.specs.InetRequest.{inet_request}
use Rattle.sock_diag_records.specs.SignificantBits.{IsInetFamily}
use Rattle.sock_diag_records.specs.UnixRequest.{unix_request}
use Rattle.sock_diag_records.specs.declared.constants.TheConstants.{AF_INET}
use Rattle.sock_diag_records.specs.declared.constants.TheConstants.{SOCK_DIAG_BY_FAMILY}
use Rattle.sock_diag_records.specs.declared.inet.request.TheConstants.{INET_DIAG_REQ_PROTOCOL}
use Rattle.sock_diag_records.specs.declared.inet.request.InetRequest as inet
use Rattle.sock_diag_records.specs.declared.unix.request.UnixRequest as unix
use Rattle.sockdiag_c.specs.Rewriting.{Conversion, WriteCall, WritesNothing}
use Rattle.sockdiag_c.specs.declared.requests.InetRequest.{InetRequest}
use Rattle.sockdiag_c.specs.declared.requests.RequestHeader.{RequestHeader}
use Rattle.sockdiag_c.specs.declared.requests.UnixRequest.{UnixRequest}
use Rattle.sockdiag_c.specs.declared.results.TheConstants.{NO_SPACE}

-- `request_header_of len message_type header`: `struct nlmsghdr` of a message of this type, of
-- `len` bytes including its header of 16 bytes. `nlmsg_flags`, `nlmsg_seq` and `nlmsg_pid` are
-- those of the caller's struct `header`.
abbrev pub request_header_of : ℕ → ℕ → RequestHeader → NetlinkHeader
request_header_of len message_type header = record {
  length = len;
  message_type = message_type;
  flags = header.flags;
  sequence_number = header.sequence_number;
  port_number = header.port_number;
}

-- `unix_request_from_c r`: `struct unix_diag_req` from the request `r`
-- (`struct sockdiag_unix_request`): each field is the field with the same name
abbrev pub unix_request_from_c : UnixRequest → unix.UnixRequest
unix_request_from_c r = record {
  state_flags = record { 0 = r.states };
  inode = r.inode;
  show_flags = record { 0 = r.show };
  cookie = r.cookie;
}

-- `address_of_family family octets`: for AF_INET, the IPv4 address of the first four octets; else
-- the IPv6 address of the sixteen octets
abbrev pub address_of_family : ℕ → List ℕ → IpAddr
address_of_family family octets =
    if family == AF_INET then V4 record {
      octets = slice_index octets 0 ∷ slice_index octets 1 ∷ slice_index octets 2
          ∷ slice_index octets 3 ∷ [];
    }
    else V6 record { segments = segments_of octets }

-- `protocol_byte protocol`: `sdiag_protocol` of a request, a `__u8`: the protocol if it is below
-- 256; else 0 (`IPPROTO_IP`), for which a kernel lists no sockets, and the attribute of
-- `protocol_attribute` has the protocol
abbrev pub protocol_byte : ℕ → ℕ
protocol_byte protocol = if nat_lt protocol 256 then protocol else 0

-- `inet_request_from_c r`: `struct inet_diag_req_v2` from the request `r`
-- (`struct sockdiag_inet_request`): each field is the field with the same name, with two
-- exceptions. The addresses are made by `address_of_family`, and `sdiag_protocol` by
-- `protocol_byte`.
abbrev pub inet_request_from_c : InetRequest → inet.InetRequest
inet_request_from_c r = record {
  family = r.family;
  protocol = protocol_byte r.protocol;
  extensions = record { 0 = r.extensions };
  states = record { 0 = r.states };
  socket_id = record {
    source_port = r.source_port;
    destination_port = r.destination_port;
    source_address = address_of_family r.family r.source_address;
    destination_address = address_of_family r.family r.destination_address;
    interface_id = r.interface_id;
    cookie = r.cookie;
  };
}

-- `protocol_attribute protocol`: no bytes if the protocol is below 256; else the 8 bytes of an
-- attribute INET_DIAG_REQ_PROTOCOL whose value is the protocol as a little-endian `__u32`
abbrev pub protocol_attribute : ℕ → List ℕ
protocol_attribute protocol =
    if nat_lt protocol 256 then []
    else attribute_bytes record {
      type_word = INET_DIAG_REQ_PROTOCOL;
      value = little_bytes 4 protocol;
    }

-- `unix_message r`: the netlink message of the request `r` for UNIX sockets, of type
-- SOCK_DIAG_BY_FAMILY. It has 40 bytes: a header of 16 bytes (`header_bytes`), then the record of
-- 24 bytes (`record_bytes`).
abbrev pub unix_message : UnixRequest → List ℕ
unix_message r =
    header_bytes (request_header_of 40 SOCK_DIAG_BY_FAMILY r.header)
    ++ record_bytes unix_request (unix_request_from_c r)

-- `inet_message_length protocol`: the number of bytes of a request for IPv4 or IPv6 sockets of this
-- protocol: 72, a header of 16 and a record of 56 bytes; and 8 bytes more, those of the attribute,
-- if the protocol is above 255
abbrev pub inet_message_length : ℕ → ℕ
inet_message_length protocol = 72 + length (protocol_attribute protocol)

-- `inet_message message_type r`: the netlink message of the request `r` for IPv4 or IPv6 sockets,
-- with the type SOCK_DIAG_BY_FAMILY or SOCK_DESTROY: its header, its record, and the attribute if
-- the protocol is above 255
abbrev pub inet_message : ℕ → InetRequest → List ℕ
inet_message message_type r =
    header_bytes (request_header_of (inet_message_length r.protocol) message_type r.header)
    ++ record_bytes inet_request (inet_request_from_c r) ++ protocol_attribute r.protocol

-- `WritesMessage len message call`: the number `len` is stored. If the buffer of the caller has at
-- least `len` bytes, the message is written at its start, the bytes after it are unchanged, and the
-- return value is 0. If it is shorter, nothing is written, and the return value is NO_SPACE. `len`
-- has to be the length of the message; it is a separate argument, so that a contract shows the
-- number itself.
abbrev pub WritesMessage : ℕ → List ℕ → WriteCall → Type 0
WritesMessage len message call =
    (len ≤ length call.old → (call.returned ≡ 0) × (call.written ≡ len)
    × (call.new ≡ message ++ drop len call.old))
    × (length call.old < len → WritesNothing len NO_SPACE call)

-- `WritesInetMessage message_type r call`: if the family of the request `r` is AF_INET or AF_INET6,
-- its message with this type (`inet_message`) is written if the buffer is long enough
-- (`WritesMessage`). For any other family nothing is written, and the return value is the code of
-- UnsupportedFamily.
abbrev pub WritesInetMessage : ℕ → InetRequest → WriteCall → Type 0
WritesInetMessage message_type r call =
    (IsInetFamily r.family
    → WritesMessage (inet_message_length r.protocol) (inet_message message_type r) call)
    × (¬ IsInetFamily r.family
    → WritesNothing 0 (error_code (UnsupportedFamily r.family)) call)

-- ---- requests with attributes of the caller

-- `with_padding attributes`: the bytes of the attributes, followed by zeros up to a multiple of 4
abbrev pub with_padding : List ℕ → List ℕ
with_padding attributes = attributes ++ replicate (padding_length (length attributes)) 0

-- `bytes_after_record r attributes`: the bytes after the record of the request `r`: the attribute
-- with the protocol if it is above 255, then the caller's attributes with their padding
abbrev pub bytes_after_record : InetRequest → List ℕ → List ℕ
bytes_after_record r attributes = protocol_attribute r.protocol ++ with_padding attributes

-- `length_with_attributes r attributes`: the number of bytes of the request `r` with these
-- attributes: the header and the record have 72 bytes
abbrev pub length_with_attributes : InetRequest → List ℕ → ℕ
length_with_attributes r attributes = 72 + length (bytes_after_record r attributes)

-- `request_with_attributes r attributes`: the netlink message of the request `r` for IPv4 or IPv6
-- sockets: its header, whose `nlmsg_len` counts all bytes of the message; its record; and
-- `bytes_after_record`
abbrev pub request_with_attributes : InetRequest → List ℕ → List ℕ
request_with_attributes r attributes =
    header_bytes (request_header_of (length_with_attributes r attributes) SOCK_DIAG_BY_FAMILY
    r.header)
    ++ record_bytes inet_request (inet_request_from_c r) ++ bytes_after_record r attributes

-- `IsWritableInetRequest r attributes`: the family is AF_INET or AF_INET6, and the length of the
-- message with these attributes fits `nlmsg_len`, a `__u32`
abbrev pub IsWritableInetRequest : InetRequest → List ℕ → Type 0
IsWritableInetRequest r attributes =
    IsInetFamily r.family × (length_with_attributes r attributes ≤ 4294967295)

-- `HasFramingError bytes e`: the bytes are zero or more attributes, followed by bytes that do not
-- begin with an attribute. `e` is the framing error of these.
abbrev pub HasFramingError : List ℕ → DecodeError → Type 0
HasFramingError bytes e =
    (attributes : List Attribute) × SplitsUntilError IsFramingError bytes attributes e

-- `filtered_request r bytes`: how the request `r` and bytes of the caller are checked and written.
-- The family has to be AF_INET or AF_INET6. The bytes have to be split into attributes, without
-- bytes after them (`[]`). What is written depends only on the bytes, so `is_writable` and
-- `serialized` do not use the attributes (`_`).
abbrev pub filtered_request : InetRequest → List ℕ → Conversion (List Attribute)
filtered_request r bytes = record {
  parses = λ attributes. IsInetFamily r.family × SplitsIntoAttributes bytes attributes [];
  rejects = λ e. (¬ IsInetFamily r.family × (e ≡ UnsupportedFamily r.family))
      ⊎ (IsInetFamily r.family × HasFramingError bytes e);
  is_writable = λ _. IsWritableInetRequest r bytes;
  serialized = λ _. request_with_attributes r bytes;
}
