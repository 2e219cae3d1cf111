-- Lines of netlink, packet, vsock and XDP sockets. `s` is what a reply has in its attributes.
use Rattle.std.specs.Prelude.{ℕ, ◌==◌, if◌then◌else◌, List, [], ◌∷◌, ◌++◌}
use Rattle.std.specs.Prelude.{codes, Option, None, Some, option_and_then, option_map}
use Rattle.byteorder.specs.Endian.{little_bytes}
use Rattle.sslist_lister.specs.Parts.{no_timer, details_after_separator}
use Rattle.sslist_texts.specs.Cells.{FirstColumns, number_or_star, state_name}
use Rattle.sslist_lister.specs.Table.{table_line}
use Rattle.sslist_command_line.specs.declared.options.Family.{Family}
use Rattle.sslist_command_line.specs.declared.options.Family.TheVariants.{Netlink, Packet}
use Rattle.sslist_command_line.specs.declared.options.Family.TheVariants.{Vsock, Xdp}
use Rattle.sslist_command_line.specs.declared.options.Options.{Options}
use Rattle.sock_diag_families.specs.declared.netlink.response.NetlinkResponseHeader.{
  NetlinkResponseHeader,
}
use Rattle.sock_diag_families.specs.declared.packet.response.PacketResponseHeader.{
  PacketResponseHeader,
}
use Rattle.sock_diag_families.specs.declared.vsock.response.VsockResponseHeader.{
  VsockResponseHeader,
}
use Rattle.sock_diag_families.specs.declared.xdp.response.XdpResponseHeader.{XdpResponseHeader}
use Rattle.sock_diag_values.specs.declared.inet.mem_info.MemInfo.{MemInfo}
use Rattle.sock_diag_any.specs.AnyParts.{memory_of, owner_of, packet_info_of, xdp_info_of}
use Rattle.sock_diag_records.specs.declared.constants.TheConstants.{SOCK_DGRAM, SOCK_RAW}
use Rattle.sock_diag_records.specs.declared.constants.TheConstants.{SOCK_SEQPACKET, SOCK_STREAM}
use Rattle.sock_diag_records.specs.declared.constants.TheConstants.{TCP_CLOSE}
use Rattle.sock_diag_families.specs.declared.packet.TheConstants.{PACKET_DIAG_INFO, PACKET_DIAG_UID}
use Rattle.sock_diag_families.specs.declared.xdp.TheConstants.{XDP_DIAG_INFO, XDP_DIAG_UID}
use Rattle.sslist_lister.specs.Details.{details}
use Rattle.sslist_lister.specs.AttributeFacts.{memory_kind}
use Rattle.sslist_lister.specs.Collected.{Summary, value_in}
use Rattle.sslist_lister.specs.declared.others.OtherSocket.{OtherSocket}
use Rattle.sslist_lister.specs.declared.others.TheConstants.{ANY, NETLINK_CONNECTED}

-- ---- values of attributes

-- `none_if_equal none n`: the number `n`, or None if it is equal to the number `none`
abbrev pub none_if_equal : ℕ → ℕ → Option ℕ
none_if_equal none n = if n == none then None else Some n

-- the interface of a packet socket; None if it is not known, or if the number is 0, which is no
-- interface
abbrev pub packet_interface : Summary → Option ℕ
packet_interface s = option_and_then (λ info. none_if_equal 0 info.interface)
    (option_and_then packet_info_of (value_in PACKET_DIAG_INFO s))

-- the interface and the queue of an XDP socket, each None if it is not known, the interface also if
-- the number is 0
abbrev pub xdp_address : Summary → Option ℕ × Option ℕ
xdp_address s =
    let info = option_and_then xdp_info_of (value_in XDP_DIAG_INFO s) in (
      option_and_then (λ bound. none_if_equal 0 bound.interface) info,
      option_map (λ bound. bound.queue) info,
    )

-- the memory of a socket; None if the reply does not have it
abbrev pub memory_in : Summary → Option MemInfo
memory_in s = option_and_then memory_of
    (option_and_then (λ kind. value_in kind s) (memory_kind s.sockets))

-- `user_kind family`: the type of the attribute with the user id of the owner; None for netlink and
-- vsock, which have none
abbrev pub user_kind : Family → Option ℕ
user_kind Packet = Some PACKET_DIAG_UID
user_kind Xdp = Some XDP_DIAG_UID
user_kind _ = None

-- `user_in family s`: the user id of the owner of a socket of this family; None if the reply does
-- not have it
abbrev pub user_in : Family → Summary → Option ℕ
user_in family s = option_and_then owner_of
    (option_and_then (λ kind. value_in kind s) (user_kind family))

-- ---- sockets of each family

-- `netlink_socket h s`: the netlink socket with the header `h`. Its local address is protocol and
-- port. Its peer is group and port, if the socket is connected. None of this is in the attributes,
-- so `s` is not used. The column State has UNCONN (TCP_CLOSE) in any case, as in ss(8).
abbrev pub netlink_socket : NetlinkResponseHeader → Summary → OtherSocket
netlink_socket h s = record {
  family = Netlink;
  kind = h.kind;
  state = TCP_CLOSE;
  inode = h.inode;
  cookie = h.cookie;
  local = (Some h.protocol, Some h.port);
  peer = if h.state == NETLINK_CONNECTED
      then Some (Some h.destination_group, Some h.destination_port) else None;
}

-- `packet_socket h s`: the packet socket with the header `h`. Its local address is the protocol,
-- and the interface in the attribute PACKET_DIAG_INFO. It has no peer. The column State
-- has UNCONN (TCP_CLOSE).
abbrev pub packet_socket : PacketResponseHeader → Summary → OtherSocket
packet_socket h s = record {
  family = Packet;
  kind = h.kind;
  state = TCP_CLOSE;
  inode = h.inode;
  cookie = h.cookie;
  local = (Some h.protocol, packet_interface s);
  peer = None;
}

-- `vsock_socket h s`: the vsock socket with the header `h`. Local address and peer are context and
-- port, each None if it is ANY (VMADDR_CID_ANY, VMADDR_PORT_ANY). None of this is in the
-- attributes, so `s` is not used.
abbrev pub vsock_socket : VsockResponseHeader → Summary → OtherSocket
vsock_socket h s = record {
  family = Vsock;
  kind = h.kind;
  state = h.state;
  inode = h.inode;
  cookie = h.cookie;
  local = (none_if_equal ANY h.source_context, none_if_equal ANY h.source_port);
  peer = Some (
    none_if_equal ANY h.destination_context,
    none_if_equal ANY h.destination_port,
  );
}

-- `xdp_socket h s`: the XDP socket with the header `h`. Its local address is the interface and
-- the queue in the attribute XDP_DIAG_INFO. It has no peer. The column State has
-- UNCONN (TCP_CLOSE).
abbrev pub xdp_socket : XdpResponseHeader → Summary → OtherSocket
xdp_socket h s = record {
  family = Xdp;
  kind = h.kind;
  state = TCP_CLOSE;
  inode = h.inode;
  cookie = h.cookie;
  local = xdp_address s;
  peer = None;
}

-- ---- lines

-- `vsock_kind kind`: the column Netid of a vsock socket, by its type `SOCK_..`
abbrev pub vsock_kind : ℕ → List ℕ
vsock_kind kind =
    if kind == SOCK_STREAM then codes "v_str" else if kind == SOCK_DGRAM then codes "v_dgr"
    else if kind == SOCK_SEQPACKET then codes "v_seq" else codes "vsock"

-- `other_kind family kind`: the column Netid of a socket, by its family and its type `SOCK_..`
abbrev pub other_kind : Family → ℕ → List ℕ
other_kind Netlink kind = codes "nl"
other_kind Packet kind = if kind == SOCK_RAW then codes "p_raw" else codes "p_dgr"
other_kind Vsock kind = vsock_kind kind
other_kind Xdp kind = codes "xdp"

-- `other_first_columns socket s`: the first columns of a socket. Recv-Q and Send-Q are
-- SK_MEMINFO_RMEM_ALLOC and SK_MEMINFO_WMEM_ALLOC of its memory.
abbrev pub other_first_columns : OtherSocket → Summary → FirstColumns
other_first_columns socket s = record {
  kind = other_kind socket.family socket.kind;
  state = state_name socket.state;
  receive_queue = option_map (λ memory. memory.receive_queue) (memory_in s);
  send_queue = option_map (λ memory. memory.bottom_send_queues) (memory_in s);
  inode = socket.inode;
  uid = user_in socket.family s;
}

-- `address_text address`: both numbers of an address, separated by a colon (58); a number that is
-- None is shown as `*`
abbrev pub address_text : Option ℕ × Option ℕ → List ℕ
address_text address = number_or_star address.0 ++ 58 ∷ number_or_star address.1

-- `optional_address_text address`: an address, or `*` if there is none (None)
abbrev pub optional_address_text : Option (Option ℕ × Option ℕ) → List ℕ
optional_address_text None = codes "*"
optional_address_text (Some address) = address_text address

-- `other_columns socket s`: the columns: the first columns, the local address and the peer's
abbrev pub other_columns : OtherSocket → Summary → List ℕ
other_columns socket s = table_line (other_first_columns socket s) (address_text socket.local)
    (optional_address_text socket.peer)

-- `other_lines o socket s`: the lines of a socket: the columns, the details and a line feed (10).
-- The cookie is passed as eight bytes, little-endian.
abbrev pub other_lines : Options → OtherSocket → Summary → List ℕ
other_lines o socket s =
    other_columns socket s
    ++ details_after_separator o (details o no_timer (little_bytes 8 socket.cookie) s) ++ 10 ∷ []
