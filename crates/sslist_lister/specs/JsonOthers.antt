-- Members of the headers of netlink, packet, vsock and XDP sockets in lines of JSON.
use Rattle.std.specs.Prelude.{ℕ, List, [], ◌∷◌, ◌++◌, codes}
use Rattle.sock_diag_families.specs.declared.netlink.response.NetlinkResponseHeader.{
  NetlinkResponseHeader,
}
use Rattle.sock_diag_families.specs.declared.packet.response.PacketResponseHeader.{
  PacketResponseHeader,
}
use Rattle.sock_diag_families.specs.declared.vsock.response.VsockResponseHeader.{
  VsockResponseHeader,
}
use Rattle.sock_diag_families.specs.declared.xdp.response.XdpResponseHeader.{XdpResponseHeader}
use Rattle.sock_diag_records.specs.declared.constants.TheConstants.{AF_NETLINK, AF_PACKET}
use Rattle.sock_diag_records.specs.declared.constants.TheConstants.{TCP_CLOSE}
use Rattle.sock_diag_families.specs.declared.vsock.TheConstants.{AF_VSOCK}
use Rattle.sock_diag_families.specs.declared.xdp.TheConstants.{AF_XDP}
use Rattle.sslist_texts.specs.Cells.{state_name}
use Rattle.sslist_texts.specs.JsonData.{JsonMember, hex_member, number_members}
use Rattle.sslist_texts.specs.JsonData.{text_member}
use Rattle.sslist_lister.specs.Others.{other_kind}
use Rattle.sslist_command_line.specs.declared.options.Family.TheVariants.{Netlink, Packet}
use Rattle.sslist_command_line.specs.declared.options.Family.TheVariants.{Vsock, Xdp}

-- `other_header_members netid state rows cookie`: the members of a header: `netid`, and the name of
-- the state as `state_name`, which are the columns Netid and State of the table; the fields in
-- `rows`, each with its name; and the cookie in hexadecimal digits
unfoldable pub other_header_members : List ℕ → ℕ → List (List ℕ × ℕ) → ℕ → List JsonMember
other_header_members netid state rows cookie =
    text_member (codes "netid") netid
    ++ (text_member (codes "state_name") (state_name state)
    ++ (number_members rows ++ hex_member (codes "cookie") cookie))

-- The members of the header of a netlink socket, `struct netlink_diag_msg` of linux/netlink_diag.h.
-- `state_name` is always UNCONN (TCP_CLOSE), as in the table.
abbrev pub netlink_header_members : NetlinkResponseHeader → List JsonMember
netlink_header_members h =
    other_header_members (other_kind Netlink h.kind) TCP_CLOSE (
    (codes "family", AF_NETLINK) ∷ (codes "type", h.kind) ∷ (codes "protocol", h.protocol) ∷
    (codes "state", h.state) ∷ (codes "portid", h.port) ∷
    (codes "dst_portid", h.destination_port) ∷ (codes "dst_group", h.destination_group) ∷
    (codes "ino", h.inode) ∷ []) h.cookie

-- The members of the header of a packet socket, `struct packet_diag_msg` of linux/packet_diag.h.
-- `state_name` is always UNCONN (TCP_CLOSE), as in the table.
abbrev pub packet_header_members : PacketResponseHeader → List JsonMember
packet_header_members h =
    other_header_members (other_kind Packet h.kind) TCP_CLOSE (
    (codes "family", AF_PACKET) ∷ (codes "type", h.kind) ∷ (codes "num", h.protocol) ∷
    (codes "ino", h.inode) ∷ []) h.cookie

-- the members of the header of a vsock socket, `struct vsock_diag_msg` of linux/vm_sockets_diag.h
abbrev pub vsock_header_members : VsockResponseHeader → List JsonMember
vsock_header_members h =
    other_header_members (other_kind Vsock h.kind) h.state (
    (codes "family", AF_VSOCK) ∷ (codes "type", h.kind) ∷ (codes "state", h.state) ∷
    (codes "shutdown", h.shutdown) ∷ (codes "src_cid", h.source_context) ∷
    (codes "src_port", h.source_port) ∷ (codes "dst_cid", h.destination_context) ∷
    (codes "dst_port", h.destination_port) ∷ (codes "ino", h.inode) ∷ []) h.cookie

-- The members of the header of an XDP socket, `struct xdp_diag_msg` of linux/xdp_diag.h.
-- `state_name` is always UNCONN (TCP_CLOSE), as in the table.
abbrev pub xdp_header_members : XdpResponseHeader → List JsonMember
xdp_header_members h =
    other_header_members (other_kind Xdp h.kind) TCP_CLOSE (
    (codes "family", AF_XDP) ∷ (codes "type", h.kind) ∷ (codes "ino", h.inode) ∷ []) h.cookie
