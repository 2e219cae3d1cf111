-- The request for all listening TCP sockets.
use Rattle.std.specs.Prelude.{ℕ, replicate}
use Rattle.netlink_core.specs.NetlinkMessage.{NetlinkMessageModel}
use Rattle.netlink_core.specs.declared.message.NetlinkPayload.TheVariants.{InnerMessage}
use Rattle.std.specs.declared.net.ip_addr.IpAddr.{IpAddr}
use Rattle.std.specs.declared.net.ip_addr.IpAddr.TheVariants.{V4, V6}
use Rattle.netlink_packet_sock_diag.specs.Message.{Message, message_of}
use Rattle.sock_diag_records.specs.ResponseKind.{inet_request}
use Rattle.sock_diag_records.specs.declared.constants.TheConstants as c
use Rattle.sock_diag_examples.specs.declared.listening_tcp.Family.{Family}
use Rattle.sock_diag_examples.specs.declared.listening_tcp.Family.TheVariants.{Inet, Inet6}

-- `family_number family`: AF_INET or AF_INET6
abbrev pub family_number : Family → ℕ
family_number Inet = c.AF_INET
family_number Inet6 = c.AF_INET6

-- `zero_address family`: the address of all zeros, IPv4 or IPv6 by the family
abbrev pub zero_address : Family → IpAddr
zero_address Inet = V4 record { octets = replicate 4 0 }
zero_address Inet6 = V6 record { segments = replicate 8 0 }

-- `listening_request family sequence_number`: a netlink message of 72 bytes with this sequence
-- number: flags NLM_F_REQUEST | NLM_F_DUMP (0x301), port id 0; and a `struct inet_diag_req_v2`: the
-- family, protocol IPPROTO_TCP (6), no attributes requested, only the state TCP_LISTEN (bit 10,
-- 0x400), and a socket id of all zeros.
abbrev pub listening_request : Family → ℕ → NetlinkMessageModel Message
listening_request family sequence_number = record {
  header = record {
    length = 72;
    message_type = c.SOCK_DIAG_BY_FAMILY;
    flags = 0x301;
    sequence_number = sequence_number;
    port_number = 0;
  };
  payload = InnerMessage (message_of inet_request (record {
    family = family_number family;
    protocol = c.IPPROTO_TCP;
    extensions = record { 0 = 0 };
    states = record { 0 = 0x400 };
    socket_id = record {
      source_port = 0;
      destination_port = 0;
      source_address = zero_address family;
      destination_address = zero_address family;
      interface_id = 0;
      cookie = replicate 8 0;
    };
  }));
}
