-- The header of a reply about a socket of any family.
use Rattle.std.specs.Prelude.{ℕ, ◌==◌, ◌||◌, nat_lt, if◌then◌else◌, List, drop, length}
use Rattle.std.specs.Prelude.{slice_index, Option, Some, None, Result, Err}
use Rattle.byteorder.specs.Endian.{little_number}
use Rattle.netlink_core.specs.Errors.{map_ok}
use Rattle.netlink_core.specs.Layout.{parse_record}
use Rattle.netlink_core.specs.declared.error.DecodeError.{DecodeError}
use Rattle.netlink_core.specs.declared.error.DecodeError.TheVariants.{MessageTooShort}
use Rattle.netlink_core.specs.declared.error.DecodeError.TheVariants.{UnknownFamily}
use Rattle.netlink_core.specs.declared.error.DecodeError.TheVariants.{UnknownMessageType}
use Rattle.sock_diag_records.specs.InetResponse.{inet_response_header}
use Rattle.sock_diag_records.specs.UnixResponseHeader.{unix_response_header}
use Rattle.sock_diag_records.specs.declared.constants.TheConstants as c
use Rattle.sock_diag_records.specs.declared.inet.response.TheConstants.{INET_RESPONSE_HEADER_LEN}
use Rattle.sock_diag_records.specs.declared.unix.response.TheConstants.{UNIX_RESPONSE_HEADER_LEN}
use Rattle.sock_diag_families.specs.NetlinkResponseHeader.{netlink_header}
use Rattle.sock_diag_families.specs.PacketResponseHeader.{packet_header}
use Rattle.sock_diag_families.specs.VsockResponseHeader.{vsock_header}
use Rattle.sock_diag_families.specs.XdpResponseHeader.{xdp_header}
use Rattle.sock_diag_families.specs.declared.netlink.response.TheConstants.{
  NETLINK_RESPONSE_HEADER_LEN,
}
use Rattle.sock_diag_families.specs.declared.packet.response.TheConstants.{
  PACKET_RESPONSE_HEADER_LEN,
}
use Rattle.sock_diag_families.specs.declared.vsock.TheConstants.{AF_VSOCK}
use Rattle.sock_diag_families.specs.declared.vsock.response.TheConstants.{VSOCK_RESPONSE_HEADER_LEN}
use Rattle.sock_diag_families.specs.declared.xdp.TheConstants.{AF_XDP}
use Rattle.sock_diag_families.specs.declared.xdp.response.TheConstants.{XDP_RESPONSE_HEADER_LEN}
use Rattle.sock_diag_any.specs.declared.header.AnyHeader.{AnyHeader}
use Rattle.sock_diag_any.specs.declared.header.AnyHeader.TheVariants as header
use Rattle.sock_diag_any.specs.declared.header.RawTimer.{RawTimer}
use Rattle.sock_diag_any.specs.declared.nla.InfoFormat.{InfoFormat}
use Rattle.sock_diag_any.specs.declared.nla.Sockets.{Sockets}
use Rattle.sock_diag_any.specs.declared.nla.Sockets.TheVariants as sockets
use Rattle.sock_diag_extras.specs.declared.constants.TheConstants.{DCCPDIAG_GETSOCK}
use Rattle.sock_diag_extras.specs.declared.constants.TheConstants.{TCPDIAG_GETSOCK}

-- `header_of_family family payload`: the header of the reply in the payload, by the family, or its
-- error
unfoldable pub header_of_family : ℕ → List ℕ → Result AnyHeader DecodeError
header_of_family family payload =
    if family == c.AF_UNIX then map_ok header.Unix (parse_record unix_response_header tt payload)
    else if (family == c.AF_INET) || (family == c.AF_INET6)
    then map_ok header.Inet (parse_record inet_response_header tt payload)
    else if family == c.AF_NETLINK
    then map_ok header.Netlink (parse_record netlink_header tt payload)
    else if family == c.AF_PACKET then map_ok header.Packet (parse_record packet_header tt payload)
    else if family == AF_VSOCK then map_ok header.Vsock (parse_record vsock_header tt payload)
    else if family == AF_XDP then map_ok header.Xdp (parse_record xdp_header tt payload)
    else Err (UnknownFamily family)

-- `header_of_type message_type payload`: the header of the reply in the payload of a message of
-- this type. Replies of the types TCPDIAG_GETSOCK and DCCPDIAG_GETSOCK are about IPv4 or IPv6
-- sockets.
unfoldable pub header_of_type : ℕ → List ℕ → Result AnyHeader DecodeError
header_of_type message_type payload =
    if message_type == c.SOCK_DIAG_BY_FAMILY
    then header_of_family (slice_index payload 0) payload
    else if (message_type == TCPDIAG_GETSOCK) || (message_type == DCCPDIAG_GETSOCK)
    then map_ok header.Inet (parse_record inet_response_header tt payload)
    else Err (UnknownMessageType message_type)

-- `any_header payload message_type`: the header of the reply in the payload of a message of this
-- type, or its error. A reply has at least two bytes.
abbrev pub any_header : List ℕ → ℕ → Result AnyHeader DecodeError
any_header payload message_type =
    if nat_lt (length payload) 2 then Err (MessageTooShort (length payload))
    else header_of_type message_type payload

-- the number of bytes of a header
abbrev pub header_size : AnyHeader → ℕ
header_size (header.Unix of_socket) = UNIX_RESPONSE_HEADER_LEN
header_size (header.Inet of_socket) = INET_RESPONSE_HEADER_LEN
header_size (header.Netlink of_socket) = NETLINK_RESPONSE_HEADER_LEN
header_size (header.Packet of_socket) = PACKET_RESPONSE_HEADER_LEN
header_size (header.Vsock of_socket) = VSOCK_RESPONSE_HEADER_LEN
header_size (header.Xdp of_socket) = XDP_RESPONSE_HEADER_LEN

-- `sockets_of of_socket format`: the sockets that a reply with this header is about, whose
-- INET_DIAG_INFO has this format
abbrev pub sockets_of : AnyHeader → InfoFormat → Sockets
sockets_of (header.Unix of_socket) format = sockets.Unix
sockets_of (header.Inet of_socket) format = sockets.Inet format
sockets_of (header.Netlink of_socket) format = sockets.Netlink
sockets_of (header.Packet of_socket) format = sockets.Packet
sockets_of (header.Vsock of_socket) format = sockets.Vsock
sockets_of (header.Xdp of_socket) format = sockets.Xdp

-- `timer_at payload`: `idiag_timer`, `idiag_retrans` and `idiag_expires` of `struct inet_diag_msg`,
-- at the offsets 2, 3 and 52
abbrev pub timer_at : List ℕ → RawTimer
timer_at payload = record {
  kind = slice_index payload 2;
  retransmits = slice_index payload 3;
  expires = little_number 4 (drop 52 payload);
}

-- the timer of a reply about an IPv4 or IPv6 socket; None for other families
abbrev pub timer_of : AnyHeader → List ℕ → Option RawTimer
timer_of (header.Inet of_socket) payload = Some (timer_at payload)
timer_of other payload = None
