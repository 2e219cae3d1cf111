-- What an attribute of one kind says; None for attributes of other kinds.
use Rattle.std.specs.Prelude.{ℕ, List, Option, None, Some}
use Rattle.sock_diag_values.specs.declared.inet.mem_info.MemInfo.{MemInfo}
use Rattle.sock_diag_attributes.specs.declared.unix.name.SocketName.{SocketName}
use Rattle.sock_diag_families.specs.declared.packet.attributes.PacketInfo.{PacketInfo}
use Rattle.sock_diag_families.specs.declared.xdp.attributes.XdpInfo.{XdpInfo}
use Rattle.sock_diag_any.specs.AnyNla.{AnyValue}
use Rattle.sock_diag_any.specs.AnyNla as any

-- the name of a UNIX socket
abbrev pub socket_name_of : AnyValue → Option (SocketName (List ℕ))
socket_name_of (any.name n) = Some n
socket_name_of other = None

-- the inode of the peer of a UNIX socket
abbrev pub peer_of : AnyValue → Option ℕ
peer_of (any.peer inode) = Some inode
peer_of other = None

-- the lengths of the receive queue (`.0`) and the send queue (`.1`) of a UNIX socket
abbrev pub queue_lengths_of : AnyValue → Option (ℕ × ℕ)
queue_lengths_of (any.queue_lengths receive send) = Some (receive, send)
queue_lengths_of other = None

-- the memory of a socket
abbrev pub memory_of : AnyValue → Option MemInfo
memory_of (any.memory m) = Some m
memory_of other = None

-- the user id of the owner
abbrev pub owner_of : AnyValue → Option ℕ
owner_of (any.owner user) = Some user
owner_of other = None

-- the protocol, `IPPROTO_..`
abbrev pub socket_protocol_of : AnyValue → Option ℕ
socket_protocol_of (any.protocol n) = Some n
socket_protocol_of other = None

-- the mark
abbrev pub mark_of : AnyValue → Option ℕ
mark_of (any.mark n) = Some n
mark_of other = None

-- the id of the control group
abbrev pub cgroup_id_of : AnyValue → Option ℕ
cgroup_id_of (any.cgroup_id id) = Some id
cgroup_id_of other = None

-- the settings of a packet socket
abbrev pub packet_info_of : AnyValue → Option PacketInfo
packet_info_of (any.packet_info info) = Some info
packet_info_of other = None

-- the interface and the queue of an XDP socket
abbrev pub xdp_info_of : AnyValue → Option XdpInfo
xdp_info_of (any.xdp_info info) = Some info
xdp_info_of other = None
