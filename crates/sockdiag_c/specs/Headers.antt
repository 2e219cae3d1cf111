-- The headers of replies, as C structs.
use Rattle.std.specs.Prelude.{ℕ, List}
use Rattle.std.specs.declared.net.ip_addr.IpAddr.{IpAddr}
use Rattle.netlink_core.specs.Response.{ReplyValue, response_codec}
use Rattle.netlink_core.specs.Table.{bytes_of}
use Rattle.sock_diag_records.specs.declared.inet.response.InetResponseHeader.{InetResponseHeader}
use Rattle.sock_diag_records.specs.declared.unix.response.UnixResponseHeader.{UnixResponseHeader}
use Rattle.sock_diag_records.specs.IpVersions.{address_data}
use Rattle.sock_diag_records.specs.SocketId.{address_fields, address_values}
use Rattle.netlink_packet_sock_diag.specs.Message.{Message, message_codec, message_of}
use Rattle.sock_diag_records.specs.ResponseKind.{inet_request, inet_response, unix_request}
use Rattle.sock_diag_records.specs.ResponseKind.{unix_response}
use Rattle.sock_diag_replies.specs.InetResponseSpec.{inet_response_spec}
use Rattle.sock_diag_replies.specs.UnixResponseSpec.{unix_response_spec}
use Rattle.sock_diag_any.specs.AnyHeader.{timer_at}
use Rattle.sock_diag_any.specs.declared.header.RawTimer.{RawTimer}
use Rattle.sockdiag_c.specs.Answers.{Check}
use Rattle.sockdiag_c.specs.declared.headers.InetHeader.{InetHeader}
use Rattle.sockdiag_c.specs.declared.headers.Reply.{Reply}
use Rattle.sockdiag_c.specs.declared.headers.TheConstants.{INET, UNIX}
use Rattle.sockdiag_c.specs.declared.headers.UnixHeader.{UnixHeader}

-- `unix_header_of h`: `struct sockdiag_unix_header` from the parsed `struct unix_diag_msg` `h`:
-- each field is the field with the same name
abbrev pub unix_header_of : UnixResponseHeader → UnixHeader
unix_header_of h = record { kind = h.kind; state = h.state; inode = h.inode; cookie = h.cookie }

-- `address_octets_of ip`: the 16 bytes of a field with this address, in network byte order: 4 bytes
-- and 12 zeros for IPv4, 16 bytes for IPv6. For 127.0.0.1 they are 127, 0, 0, 1 and twelve zeros.
-- The field is serialized by itself, so its offset is 0; `(address_data ip).0` is the IP version.
abbrev pub address_octets_of : IpAddr → List ℕ
address_octets_of ip = bytes_of (address_fields 0 (address_data ip).0) (address_values ip)

-- `inet_header_of timer h`: `struct sockdiag_inet_header` from the parsed `struct inet_diag_msg`
-- `h` and its timer, as the kernel sends it (`timer_at`). Each field is the field with the same
-- name.
abbrev pub inet_header_of : RawTimer → InetResponseHeader → InetHeader
inet_header_of timer h = record {
  family = h.family;
  state = h.state;
  timer = timer.kind;
  retransmits = timer.retransmits;
  expires = timer.expires;
  source_port = h.socket_id.source_port;
  destination_port = h.socket_id.destination_port;
  source_address = address_octets_of h.socket_id.source_address;
  destination_address = address_octets_of h.socket_id.destination_address;
  interface_id = h.socket_id.interface_id;
  cookie = h.socket_id.cookie;
  recv_queue = h.recv_queue;
  send_queue = h.send_queue;
  uid = h.uid;
  inode = h.inode;
}

-- `unix_check payload`: the check of a reply about a UNIX socket, which stores its header.
abbrev pub unix_check : List ℕ → Check (ReplyValue unix_response_spec) UnixHeader
unix_check payload = record {
  parses = (response_codec unix_response_spec).parses payload tt;
  rejects = (response_codec unix_response_spec).rejects payload tt;
  found = λ v. unix_header_of v.header;
}

-- `inet_check payload`: the check of a reply about an IPv4 or IPv6 socket, which stores its header.
abbrev pub inet_check : List ℕ → Check (ReplyValue inet_response_spec) InetHeader
inet_check payload = record {
  parses = (response_codec inet_response_spec).parses payload tt;
  rejects = (response_codec inet_response_spec).rejects payload tt;
  found = λ v. inet_header_of (timer_at payload) v.header;
}

-- `reply_of payload old message`: `struct sockdiag_reply` after a call that accepts the payload as
-- this message; `old` is the struct before the call. It has the kind and the header of the reply;
-- the header of the other kind is unchanged. The last two lines never apply, since a message is
-- never parsed as a request.
abbrev pub reply_of : List ℕ → Reply → Message → Reply
reply_of payload old (message_of unix_response v) =
    record old { kind = UNIX; unix_header = unix_header_of v.header }
reply_of payload old (message_of inet_response v) =
    record old { kind = INET; inet_header = inet_header_of (timer_at payload) v.header }
reply_of payload old (message_of unix_request v) = old
reply_of payload old (message_of inet_request v) = old

-- `message_check payload message_type old`: the check of the payload of a message of this type,
-- which stores the kind and the header of the reply in the struct `old`. Only replies are accepted,
-- whose type is SOCK_DIAG_BY_FAMILY (20).
abbrev pub message_check : List ℕ → ℕ → Reply → Check Message Reply
message_check payload message_type old = record {
  parses = message_codec.parses payload message_type;
  rejects = message_codec.rejects payload message_type;
  found = reply_of payload old;
}
