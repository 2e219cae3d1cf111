-- Facts of the attributes of a reply. `utf8` is the option `--utf8`. Names in JSON are the kernel's
-- names in lowercase, without the prefix that all names of a struct or an enum have, except those
-- of the bytes of a name (`path` and so on).
use Rattle.std.specs.Prelude.{ℕ, ◌==◌, List, [], codes}
use Rattle.std.specs.Prelude.{Bool, false, true, None, Some, Ok, Option, Result}
use Rattle.std.specs.Option.{option_map_or}
use Rattle.netlink_core.specs.Errors.{map_ok}
use Rattle.netlink_core.specs.declared.error.DecodeError.{DecodeError}
use Rattle.sock_diag_records.specs.declared.constants.TheConstants.{INET_DIAG_SKMEMINFO}
use Rattle.sock_diag_records.specs.declared.constants.TheConstants.{UNIX_DIAG_MEMINFO}
use Rattle.sock_diag_attributes.specs.declared.unix.name.SocketName.{SocketName}
use Rattle.sock_diag_attributes.specs.declared.unix.name.SocketName.TheVariants.{Abstract, Pathname}
use Rattle.sock_diag_families.specs.declared.netlink.TheConstants.{NETLINK_DIAG_MEMINFO}
use Rattle.sock_diag_families.specs.declared.packet.TheConstants.{PACKET_DIAG_MEMINFO}
use Rattle.sock_diag_families.specs.declared.xdp.TheConstants.{XDP_DIAG_MEMINFO}
use Rattle.sock_diag_any.specs.AnyNla as any
use Rattle.sock_diag_any.specs.AnyNla.{AnyValue}
use Rattle.sock_diag_any.specs.declared.nla.Sockets.{Sockets}
use Rattle.sock_diag_any.specs.declared.nla.Sockets.TheVariants.{Inet, Netlink, Packet}
use Rattle.sock_diag_any.specs.declared.nla.Sockets.TheVariants.{Unix, Vsock, Xdp}
use Rattle.sslist_facts.specs.Facts.{Facts, bytes_facts, flag_facts, json_group, list_facts}
use Rattle.sslist_facts.specs.Facts.{no_facts, number_facts, text_facts}
use Rattle.sslist_facts.specs.FamilyFacts.{fanout_facts, groups_facts, netlink_flags_facts}
use Rattle.sslist_facts.specs.FamilyFacts.{packet_facts, packet_ring_facts, umem_facts}
use Rattle.sslist_facts.specs.FamilyFacts.{xdp_facts, xdp_ring_facts, xdp_statistics_facts}
use Rattle.sslist_facts.specs.FilterProgram.{filter_facts}
use Rattle.sslist_facts.specs.Md5Keys.{md5_facts}
use Rattle.sslist_facts.specs.Memberships.{memberships_facts}
use Rattle.sslist_facts.specs.SctpAddresses.{addresses_facts}
use Rattle.sslist_facts.specs.SocketFacts.{bbr_facts, dctcp_facts, legacy_memory_facts}
use Rattle.sslist_facts.specs.SocketFacts.{memory_facts, option_facts, queue_facts, vegas_facts}
use Rattle.sslist_facts.specs.SocketFacts.{vfs_facts}
use Rattle.sslist_facts.specs.Tcp.{mptcp_facts, tcp_facts}
use Rattle.sslist_facts.specs.declared.facts.Shown.TheVariants.{Always, Directions, Hex, Never}
use Rattle.sslist_lister.specs.UlpInfo.{ulp_facts, ulp_name}

-- ---- the memory of a socket

-- `memory_kind sockets`: the type of the attribute with the memory of a socket, an array of numbers
-- with the indices SK_MEMINFO_..; None for vsock sockets, which have none
abbrev pub memory_kind : Sockets → Option ℕ
memory_kind Unix = Some UNIX_DIAG_MEMINFO
memory_kind (Inet format) = Some INET_DIAG_SKMEMINFO
memory_kind Netlink = Some NETLINK_DIAG_MEMINFO
memory_kind Packet = Some PACKET_DIAG_MEMINFO
memory_kind Vsock = None
memory_kind Xdp = Some XDP_DIAG_MEMINFO

-- `is_memory_kind sockets kind`: an attribute of this type has the memory of a socket
abbrev pub is_memory_kind : Sockets → ℕ → Bool
is_memory_kind sockets kind =
    option_map_or (λ of_memory. of_memory == kind) (memory_kind sockets) false

-- the name in JSON of the memory of a socket
abbrev pub memory_member : Sockets → List ℕ
memory_member (Inet format) = codes "skmeminfo"
memory_member other = codes "meminfo"

-- ---- UNIX sockets

-- the bytes of the name of a UNIX socket: `path` or `abstract`, or with the suffix `_hex` if they
-- are not valid UTF-8
abbrev pub name_bytes_facts : SocketName (List ℕ) → Facts
name_bytes_facts (Pathname path) = bytes_facts (codes "path") (codes "path_hex") path
name_bytes_facts (Abstract name) = bytes_facts (codes "abstract") (codes "abstract_hex") name

-- the name of a UNIX socket, which only JSON has here, since the table has a column for it
unfoldable pub name_facts : SocketName (List ℕ) → Facts
name_facts name = json_group (codes "name") (name_bytes_facts name)

-- `shutdown_facts n`: the directions that are shut down, by the value `n` of an attribute
-- `.._DIAG_SHUTDOWN`. In the table no text precedes them (`[]`).
abbrev pub shutdown_facts : ℕ → Facts
shutdown_facts n = number_facts Directions [] (Some (codes "shutdown")) n

-- `owner_facts sockets user`: the user id of the owner of a socket. Only JSON has that of a UNIX
-- socket here (Never), since the table has a column for it.
abbrev pub owner_facts : Sockets → ℕ → Facts
owner_facts Unix user = number_facts Never [] (Some (codes "uid")) user
owner_facts other user = number_facts Always (codes " uid:") (Some (codes "uid")) user

-- ---- attributes of all kinds

-- `any_facts utf8 sockets value`: the facts of an attribute of a reply about these sockets, which
-- says `value`; no facts if its kind is unknown or INET_DIAG_SK_BPF_STORAGES. Only JSON has the
-- name of a UNIX socket, its peer, its owner and its queues here, since the table has columns for
-- them. `icons` are the inodes of connections that wait to be accepted.
abbrev pub any_facts : Bool → Sockets → AnyValue → Facts
any_facts utf8 sockets (any.name n) = name_facts n
any_facts utf8 sockets (any.vfs file) = vfs_facts file.inode file.device
any_facts utf8 sockets (any.peer inode) = number_facts Never [] (Some (codes "peer")) inode
any_facts utf8 sockets (any.pending_connections inodes) =
    list_facts (codes " pending:") (codes " pending:") (codes "icons") inodes
any_facts utf8 sockets (any.queue_lengths receive send) = queue_facts receive send
any_facts utf8 sockets (any.memory m) = memory_facts (memory_member sockets) m
any_facts utf8 sockets (any.shutdown directions) = shutdown_facts directions
any_facts utf8 sockets (any.owner user) = owner_facts sockets user
any_facts utf8 sockets (any.legacy_memory m) = legacy_memory_facts m
any_facts utf8 sockets (any.tcp_info bytes) = tcp_facts bytes
any_facts utf8 sockets (any.mptcp_info bytes) = mptcp_facts bytes
any_facts utf8 sockets (any.congestion name) = text_facts utf8 (codes " cong:") (codes "cong") name
any_facts utf8 sockets (any.tos n) = number_facts Hex (codes " tos:0x") (Some (codes "tos")) n
any_facts utf8 sockets (any.traffic_class n) =
    number_facts Hex (codes " tclass:0x") (Some (codes "tclass")) n
any_facts utf8 sockets (any.protocol n) =
    number_facts Always (codes " protocol:") (Some (codes "protocol")) n
any_facts utf8 sockets (any.mark n) = number_facts Hex (codes " fwmark:0x") (Some (codes "mark")) n
any_facts utf8 sockets (any.class_id n) =
    number_facts Hex (codes " class_id:0x") (Some (codes "class_id")) n
any_facts utf8 sockets (any.v6_only flag) =
    flag_facts Always (codes " v6only:") (codes "skv6only") flag
any_facts utf8 sockets (any.vegas v) = vegas_facts v
any_facts utf8 sockets (any.dctcp v) = dctcp_facts v
any_facts utf8 sockets (any.bbr v) = bbr_facts v
any_facts utf8 sockets (any.local_addresses records) =
    addresses_facts (codes " locals:") (codes "locals") records
any_facts utf8 sockets (any.peer_addresses records) =
    addresses_facts (codes " peers:") (codes "peers") records
any_facts utf8 sockets (any.md5_signatures records) = md5_facts records
any_facts utf8 sockets (any.ulp bytes) = ulp_facts bytes
any_facts utf8 sockets (any.bpf_storages bytes) = no_facts
any_facts utf8 sockets (any.cgroup_id n) =
    number_facts Always (codes " cgroup:") (Some (codes "cgroup_id")) n
any_facts utf8 sockets (any.options of_socket) = option_facts of_socket.bits
any_facts utf8 sockets (any.groups mask) = groups_facts mask
any_facts utf8 sockets (any.netlink_flags bits) = netlink_flags_facts bits
any_facts utf8 sockets (any.packet_info p) = packet_facts p
any_facts utf8 sockets (any.memberships records) = memberships_facts records
any_facts utf8 sockets (any.receive_frames ring) =
    packet_ring_facts (codes " ring_rx(") (codes "rx_ring") ring
any_facts utf8 sockets (any.send_frames ring) =
    packet_ring_facts (codes " ring_tx(") (codes "tx_ring") ring
any_facts utf8 sockets (any.fanout n) = fanout_facts n
any_facts utf8 sockets (any.filter instructions) = filter_facts instructions
any_facts utf8 sockets (any.xdp_info x) = xdp_facts x
any_facts utf8 sockets (any.receive_ring entries) =
    xdp_ring_facts (codes " rx(") (codes "rx_ring") entries
any_facts utf8 sockets (any.send_ring entries) =
    xdp_ring_facts (codes " tx(") (codes "tx_ring") entries
any_facts utf8 sockets (any.fill_ring entries) =
    xdp_ring_facts (codes " fr(") (codes "umem_fill_ring") entries
any_facts utf8 sockets (any.completion_ring entries) =
    xdp_ring_facts (codes " cr(") (codes "umem_completion_ring") entries
any_facts utf8 sockets (any.umem m) = umem_facts m
any_facts utf8 sockets (any.statistics counters) = xdp_statistics_facts counters
any_facts utf8 sockets (any.unknown a) = no_facts

-- the status of an attribute that says this (`Status` of `src/attributes.rt`): true if it has
-- facts, false if its kind is unknown or INET_DIAG_SK_BPF_STORAGES, or the error of its value. An
-- upper layer protocol needs a valid name.
abbrev pub value_status : AnyValue → Result Bool DecodeError
value_status (any.ulp bytes) = map_ok (λ name. true) (ulp_name bytes)
value_status (any.bpf_storages bytes) = Ok false
value_status (any.unknown a) = Ok false
value_status other = Ok true
