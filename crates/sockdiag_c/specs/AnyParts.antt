-- Parts for the rows of the tables, next to those of `sock_diag_extras`: what an attribute of one
-- kind says; None for attributes of other kinds.
use Rattle.std.specs.Prelude.{ℕ, if◌then◌else◌, List, Option, None, Some}
use Rattle.sock_diag_values.specs.declared.inet.legacy_mem_info.LegacyMemInfo.{LegacyMemInfo}
use Rattle.sock_diag_attributes.specs.declared.unix.name.SocketName.TheVariants.{Abstract, Pathname}
use Rattle.sock_diag_families.specs.declared.packet.attributes.PacketRing.{PacketRing}
use Rattle.sock_diag_families.specs.declared.xdp.attributes.XdpStatistics.{XdpStatistics}
use Rattle.sock_diag_families.specs.declared.xdp.attributes.XdpUmem.{XdpUmem}
use Rattle.sock_diag_any.specs.AnyNla.{AnyValue}
use Rattle.sock_diag_any.specs.AnyNla as any
use Rattle.sockdiag_c.specs.declared.details.TheConstants.{ABSTRACT, TEXT}

-- the name of a UNIX socket: its kind, SOCKDIAG_TEXT for a pathname or SOCKDIAG_ABSTRACT, and its
-- bytes
abbrev pub name_of : AnyValue → Option (ℕ × List ℕ)
name_of (any.name (Pathname path)) = Some (TEXT, path)
name_of (any.name (Abstract address)) = Some (ABSTRACT, address)
name_of other = None

-- the inode of the file that a UNIX socket is bound to
abbrev pub file_inode_of : AnyValue → Option ℕ
file_inode_of (any.vfs file) = Some file.inode
file_inode_of other = None

-- the device of this file
abbrev pub file_device_of : AnyValue → Option ℕ
file_device_of (any.vfs file) = Some file.device
file_device_of other = None

-- the length of the receive queue of a UNIX socket
abbrev pub recv_queue_of : AnyValue → Option ℕ
recv_queue_of (any.queue_lengths receive send) = Some receive
recv_queue_of other = None

-- the length of the send queue of a UNIX socket
abbrev pub send_queue_of : AnyValue → Option ℕ
send_queue_of (any.queue_lengths receive send) = Some send
send_queue_of other = None

-- the directions that are shut down
abbrev pub shutdown_of : AnyValue → Option ℕ
shutdown_of (any.shutdown directions) = Some directions
shutdown_of other = None

-- the name of the congestion control algorithm, of the kind SOCKDIAG_TEXT
abbrev pub congestion_of : AnyValue → Option (ℕ × List ℕ)
congestion_of (any.congestion algorithm) = Some (TEXT, algorithm)
congestion_of other = None

-- the type of service
abbrev pub tos_of : AnyValue → Option ℕ
tos_of (any.tos n) = Some n
tos_of other = None

-- the traffic class of an IPv6 socket
abbrev pub traffic_class_of : AnyValue → Option ℕ
traffic_class_of (any.traffic_class n) = Some n
traffic_class_of other = None

-- 1 if the socket is for IPv6 only, else 0
abbrev pub v6_only_of : AnyValue → Option ℕ
v6_only_of (any.v6_only only) = Some (if only then 1 else 0)
v6_only_of other = None

-- the traffic class id of the control group, or the priority if that id is 0
abbrev pub class_id_of : AnyValue → Option ℕ
class_id_of (any.class_id n) = Some n
class_id_of other = None

-- the options of an internet socket, as bits
abbrev pub options_of : AnyValue → Option ℕ
options_of (any.options of_socket) = Some of_socket.bits
options_of other = None

-- the memory of an internet socket in the format of old kernels
abbrev pub legacy_memory_of : AnyValue → Option LegacyMemInfo
legacy_memory_of (any.legacy_memory m) = Some m
legacy_memory_of other = None

-- the groups of a netlink socket
abbrev pub groups_of : AnyValue → Option (List ℕ)
groups_of (any.groups bits) = Some bits
groups_of other = None

-- the bits `NDIAG_FLAG_..` of a netlink socket
abbrev pub netlink_flags_of : AnyValue → Option ℕ
netlink_flags_of (any.netlink_flags bits) = Some bits
netlink_flags_of other = None

-- the memberships of a packet socket
abbrev pub memberships_of : AnyValue → Option (List ℕ)
memberships_of (any.memberships records) = Some records
memberships_of other = None

-- the receive ring of a packet socket
abbrev pub receive_frames_of : AnyValue → Option PacketRing
receive_frames_of (any.receive_frames ring) = Some ring
receive_frames_of other = None

-- the transmit ring of a packet socket
abbrev pub send_frames_of : AnyValue → Option PacketRing
send_frames_of (any.send_frames ring) = Some ring
send_frames_of other = None

-- the fanout group of a packet socket
abbrev pub fanout_of : AnyValue → Option ℕ
fanout_of (any.fanout n) = Some n
fanout_of other = None

-- the filter of a packet socket
abbrev pub filter_of : AnyValue → Option (List ℕ)
filter_of (any.filter program) = Some program
filter_of other = None

-- the number of entries of the receive ring of an XDP socket
abbrev pub receive_ring_of : AnyValue → Option ℕ
receive_ring_of (any.receive_ring entries) = Some entries
receive_ring_of other = None

-- the number of entries of the transmit ring of an XDP socket
abbrev pub send_ring_of : AnyValue → Option ℕ
send_ring_of (any.send_ring entries) = Some entries
send_ring_of other = None

-- the number of entries of the fill ring of an XDP socket
abbrev pub fill_ring_of : AnyValue → Option ℕ
fill_ring_of (any.fill_ring entries) = Some entries
fill_ring_of other = None

-- the number of entries of the completion ring of an XDP socket
abbrev pub completion_ring_of : AnyValue → Option ℕ
completion_ring_of (any.completion_ring entries) = Some entries
completion_ring_of other = None

-- the memory that an XDP socket shares
abbrev pub umem_of : AnyValue → Option XdpUmem
umem_of (any.umem m) = Some m
umem_of other = None

-- the counters of an XDP socket
abbrev pub statistics_of : AnyValue → Option XdpStatistics
statistics_of (any.statistics counters) = Some counters
statistics_of other = None
