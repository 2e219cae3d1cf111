-- What captured requests ask for, and which of them are kept. Those for IPv4 and IPv6 sockets
-- contain the protocols of the sockets in the replies.
use Rattle.std.specs.Prelude.{ℕ, ◌==◌, ◌||◌, ◌&&◌, not, nat_le, if◌then◌else◌, Bool, List, []}
use Rattle.std.specs.Prelude.{◌∷◌, ◌+◌, ◌-◌, ◌^◌, take, drop, length, min, slice_index, Option}
use Rattle.std.specs.Prelude.{None, Some}
use Rattle.std.specs.Option.{option_map_or}
use Rattle.byteorder.specs.Endian.{little_number}
use Rattle.netlink_core.specs.Attribute.{Attribute}
use Rattle.sock_diag_records.specs.declared.constants.TheConstants as c
use Rattle.sock_diag_records.specs.declared.inet.request.TheConstants.{INET_DIAG_REQ_PROTOCOL}
use Rattle.sock_diag_records.specs.declared.inet.request.TheConstants.{INET_REQUEST_LEN}
use Rattle.sock_diag_records.specs.declared.unix.request.TheConstants.{UNIX_REQUEST_LEN}
use Rattle.sslist_lister.specs.Lists.{ComparedContent, first_request, first_with}
use Rattle.sslist_lister.specs.Lists.{is_repetition}
use Rattle.sslist_lister.specs.Messages.{MessageParts}
use Rattle.sock_diag_any.specs.Pieces.{last_of_kind, pieces_in}
use Rattle.sock_diag_families.specs.declared.vsock.TheConstants.{AF_VSOCK}
use Rattle.sock_diag_families.specs.declared.xdp.TheConstants.{AF_XDP}
use Rattle.sslist_command_line.specs.declared.options.Family.{Family}
use Rattle.sslist_command_line.specs.declared.options.Family.TheVariants.{Netlink, Packet}
use Rattle.sslist_command_line.specs.declared.options.Family.TheVariants.{Vsock, Xdp}
use Rattle.sslist_lister.specs.declared.requests.TheConstants.{MAX_OLDER_REQUESTS}
use Rattle.sslist_lister.specs.declared.requests.Query.{Query}
use Rattle.sslist_lister.specs.declared.requests.Requested.{Requested}
use Rattle.sslist_lister.specs.declared.requests.Requested.TheVariants as requests
use Rattle.sslist_lister.specs.declared.requests.Requests.{Requests}

-- `protocol_by byte attribute`: the protocol of a request. It is the little-endian value of
-- `attribute`, the last INET_DIAG_REQ_PROTOCOL, if there is one and its value has four bytes, or
-- else the byte `sdiag_protocol`. Linux takes the last one too. If one of them does not have four
-- bytes, it rejects the request, which then has no replies.
abbrev pub protocol_by : ℕ → Option Attribute → ℕ
protocol_by byte None = byte
protocol_by byte (Some a) = if length a.value == 4 then little_number 4 a.value else byte

-- the query in a request for IPv4 or IPv6 sockets. Its payload has a `struct inet_diag_req_v2`,
-- with `sdiag_family` at 0, `sdiag_protocol` at 1 and `idiag_states` at 4, little-endian, and then
-- attributes, of which the last INET_DIAG_REQ_PROTOCOL counts.
abbrev pub query_of : MessageParts → Query
query_of request = record {
  sequence_number = request.header.sequence_number;
  port_number = request.header.port_number;
  protocol = protocol_by (slice_index request.payload 1) (last_of_kind INET_DIAG_REQ_PROTOCOL
      (pieces_in (drop INET_REQUEST_LEN request.payload)));
  family = slice_index request.payload 0;
  states = little_number 4 (drop 4 request.payload);
}

-- A request of this type lists or closes the sockets of a family. False for the older types
-- TCPDIAG_GETSOCK and DCCPDIAG_GETSOCK, whose struct is not decoded.
abbrev pub is_about_sockets : ℕ → Bool
is_about_sockets message_type =
    (message_type == c.SOCK_DIAG_BY_FAMILY) || (message_type == c.SOCK_DESTROY)

-- `family_numbered n`: the family with the number `n`; None for any number other than these four
abbrev pub family_numbered : ℕ → Option Family
family_numbered n =
    if n == c.AF_NETLINK then Some Netlink else if n == c.AF_PACKET then Some Packet
    else if n == AF_VSOCK then Some Vsock else if n == AF_XDP then Some Xdp else None

-- `requested_of_family family request`: what a request about sockets of this family asks for. A
-- request for IPv4 or IPv6 sockets has at least a `struct inet_diag_req_v2`, one for UNIX sockets a
-- `struct unix_diag_req`, whose `udiag_states` are at 4, little-endian. A shorter one is Unknown,
-- since `family_numbered` is None for these families. Requests for the other four families may have
-- any length.
abbrev pub requested_of_family : ℕ → MessageParts → Requested
requested_of_family family request =
    if ((family == c.AF_INET) || (family == c.AF_INET6))
    && nat_le INET_REQUEST_LEN (length request.payload)
    then requests.Inet (query_of request)
    else if (family == c.AF_UNIX) && nat_le UNIX_REQUEST_LEN (length request.payload)
    then requests.Unix (little_number 4 (drop 4 request.payload))
    else option_map_or requests.Other (family_numbered family) requests.Unknown

-- what a request asks for. The first byte of its payload is the family. A request without a
-- payload, or of another type, is Unknown.
abbrev pub requested : MessageParts → Requested
requested request =
    if not (is_about_sockets request.header.message_type) || (length request.payload == 0)
    then requests.Unknown else requested_of_family (slice_index request.payload 0) request

-- `with_newest sockets queries`: the requests after one more, which requests these sockets. If they
-- are IPv4 or IPv6 sockets, the request becomes the first one, and at most MAX_OLDER_REQUESTS of
-- the older ones in `queries` follow. Other requests are not added.
abbrev pub with_newest : Requested → List Query → List Query
with_newest (requests.Inet newest) queries = newest ∷ take MAX_OLDER_REQUESTS queries
with_newest sockets queries = queries

-- `with_query request queries`: the requests for IPv4 and IPv6 sockets after one more request. A
-- request that closes sockets is not added, since it has no replies.
abbrev pub with_query : MessageParts → List Query → List Query
with_query request queries =
    if request.header.message_type == c.SOCK_DIAG_BY_FAMILY
    then with_newest (requested request) queries else queries

-- The requests that are remembered, and the number of the list of sockets after them.
pub record PastRequests : Type 0 where
  -- those for IPv4 and IPv6 sockets, at most 16, the newest first
  pub queries : List Query
  -- the first request of any kind
  pub first : Option ComparedContent
  -- the number of the list; the first list is 1
  pub list : ℕ

-- what `Requests` of `src/requests.rt` keeps
abbrev pub past_requests : Requests → PastRequests
past_requests r = record {
  queries = r.queries.items;
  first = first_request r.first;
  list = r.list;
}

-- the state before the first request: the first list has the number 1
abbrev pub no_requests : PastRequests
no_requests = record { queries = []; first = None; list = 1 }

-- `list_with request past`: the number of the list after one more request. A repetition of the
-- first request begins the next list. The number is at most 2 ^ 64 - 1, which is `u64::MAX`.
abbrev pub list_with : MessageParts → PastRequests → ℕ
list_with request past =
    if is_repetition past.first request then min (past.list + 1) (2 ^ 64 - 1) else past.list

-- `with_request request past`: the requests after one more
abbrev pub with_request : MessageParts → PastRequests → PastRequests
with_request request past = record {
  queries = with_query request past.queries;
  first = first_with request past.first;
  list = list_with request past;
}

-- `protocol_of queries sequence port`: the protocol of the newest request that a reply with this
-- sequence number (`nlmsg_seq`) and this port number (`nlmsg_pid`) may answer: its sequence number
-- is equal, and its port number is equal or 0. None if there is no such request.
abbrev pub protocol_of : List Query → ℕ → ℕ → Option ℕ
protocol_of [] sequence port = None
protocol_of (newest ∷ older) sequence port =
    if (newest.sequence_number == sequence)
    && ((newest.port_number == port) || (newest.port_number == 0))
    then Some newest.protocol else protocol_of older sequence port
