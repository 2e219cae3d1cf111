-- The requests of the example callers.
use Rattle.std.specs.Prelude.{ℕ, List, [], ◌∷◌, ◌++◌, replicate}
use Rattle.byteorder.specs.Endian.{little_bytes}
use Rattle.std.specs.declared.net.ip_addr.IpAddr.{IpAddr}
use Rattle.std.specs.declared.net.ip_addr.IpAddr.TheVariants.{V4}
use Rattle.netlink_core.specs.Attribute.{Attribute}
use Rattle.netlink_core.specs.Layout.{record_bytes}
use Rattle.netlink_core.specs.declared.header.NetlinkHeader.{NetlinkHeader}
use Rattle.sock_diag_records.specs.SocketId.{socket_id as identity}
use Rattle.sock_diag_records.specs.declared.constants.TheConstants.{IPPROTO_TCP}
use Rattle.sock_diag_records.specs.declared.inet.request.InetRequest.{InetRequest}
use Rattle.sock_diag_records.specs.declared.inet.request.TheConstants.{INET_DIAG_REQ_BYTECODE}
use Rattle.sock_diag_records.specs.declared.inet.socket_id.SocketId.{SocketId}
use Rattle.sock_diag_filters.specs.Prefixes.{family_of}

-- `example_request_header message_type flags sequence_number`: a netlink header with these, and
-- port 0. Its length 0 is replaced when the request is serialized.
abbrev pub example_request_header : ℕ → ℕ → ℕ → NetlinkHeader
example_request_header message_type flags sequence_number = record {
  length = 0;
  message_type = message_type;
  flags = flags;
  sequence_number = sequence_number;
  port_number = 0;
}

-- NLM_F_REQUEST (0x001) and NLM_F_DUMP (0x300): all sockets are listed.
abbrev pub dump_flags : ℕ
dump_flags = 0x301

-- NLM_F_REQUEST (1) and NLM_F_ACK (4): an acknowledgement is requested.
abbrev pub acknowledged_flags : ℕ
acknowledged_flags = 5

-- The set of the state TCP_LISTEN: bit 10.
abbrev pub listen_state : ℕ
listen_state = 0x400

-- The set of all states.
abbrev pub all_states : ℕ
all_states = 0xffffffff

-- The IPv4 address 0.0.0.0.
abbrev pub zero_ipv4_address : IpAddr
zero_ipv4_address = V4 record { octets = replicate 4 0 }

-- A socket id of zeros, of IPv4: `struct inet_diag_sockid`.
abbrev pub zero_socket_id : SocketId
zero_socket_id = record {
  source_port = 0;
  destination_port = 0;
  source_address = zero_ipv4_address;
  destination_address = zero_ipv4_address;
  interface_id = 0;
  cookie = replicate 8 0;
}

-- `tcp_request_with states socket_id`: a request (`struct inet_diag_req_v2`) for the TCP sockets in
-- these states and with this socket id. Its family is the family of the source address. It requests
-- no attributes: no bit of `extensions` is set. `record { 0 = bits }` is a set of flags.
abbrev pub tcp_request_with : ℕ → SocketId → InetRequest
tcp_request_with states socket_id = record {
  family = family_of socket_id.source_address;
  protocol = IPPROTO_TCP;
  extensions = record { 0 = 0 };
  states = record { 0 = states };
  socket_id = socket_id;
}

-- `program_attribute program`: the attribute INET_DIAG_REQ_BYTECODE whose value is the program.
abbrev pub program_attribute : List ℕ → Attribute
program_attribute program = record { type_word = INET_DIAG_REQ_BYTECODE; value = program }

-- `close_request_bytes socket_id sequence_number`: the bytes of the request to close the TCP socket
-- with this socket id. First the netlink header: length 72, type 21 (SOCK_DESTROY), flags 5
-- (NLM_F_REQUEST and NLM_F_ACK), the sequence number, and port 0. Then the
-- `struct inet_diag_req_v2`: the family, protocol 6 (TCP), no extensions, padding, all states, and
-- the 48 bytes of the socket id.
abbrev pub close_request_bytes : SocketId → ℕ → List ℕ
close_request_bytes socket_id sequence_number =
    (72 ∷ 0 ∷ 0 ∷ 0 ∷ 21 ∷ 0 ∷ 5 ∷ 0 ∷ [])
    ++ (little_bytes 4 sequence_number ++ (0 ∷ 0 ∷ 0 ∷ 0 ∷ family_of socket_id.source_address ∷ 6
    ∷ 0 ∷ 0 ∷ 255 ∷ 255 ∷ 255 ∷ 255 ∷ record_bytes identity socket_id))
