-- What an attribute of a reply says, for the sockets of each family: tables with a row for each
-- kind that is not left to the port, and the port's values for its kinds. `a` is an attribute, and
-- `bytes` is the value of one.
use Rattle.std.specs.Prelude.{ℕ, ◌==◌, ◌%◌, nat_le, if◌then◌else◌, Bool, List, [], ◌∷◌, length}
use Rattle.std.specs.Prelude.{Some, Result, Ok, Err}
use Rattle.std.specs.Option.{option_map_or}
use Rattle.netlink_core.specs.Attribute.{Attribute, attribute_kind}
use Rattle.netlink_core.specs.AttributeSet.{decode_attribute}
use Rattle.netlink_core.specs.Errors.{map_ok}
use Rattle.netlink_core.specs.Layout.{parse_record}
use Rattle.netlink_core.specs.Parse.{number_of_width}
use Rattle.netlink_core.specs.Walk.{buffered_attribute}
use Rattle.netlink_core.specs.declared.error.DecodeError.{DecodeError}
use Rattle.netlink_core.specs.declared.error.DecodeError.TheVariants.{WrongLength}
use Rattle.sock_diag_values.specs.MemInfo.{mem_info}
use Rattle.sock_diag_values.specs.declared.inet.legacy_mem_info.LegacyMemInfo.{LegacyMemInfo}
use Rattle.sock_diag_values.specs.declared.inet.mem_info.MemInfo.{MemInfo}
use Rattle.sock_diag_values.specs.declared.unix.vfs.Vfs.{Vfs}
use Rattle.sock_diag_records.specs.declared.constants.TheConstants as c
use Rattle.sock_diag_attributes.specs.InetAttributes.{inet_attribute_set}
use Rattle.sock_diag_attributes.specs.InetModel.{inet_variant}
use Rattle.sock_diag_attributes.specs.NameModel.{name_view_model}
use Rattle.sock_diag_attributes.specs.NumbersModel.{numbers_view_model}
use Rattle.sock_diag_attributes.specs.UnixAttributes.{unix_attribute_set}
use Rattle.sock_diag_attributes.specs.UnixModel.{unix_variant}
use Rattle.sock_diag_attributes.specs.declared.inet.nlas.InetNla.{InetNla}
use Rattle.sock_diag_attributes.specs.declared.inet.nlas.InetNla.TheVariants as inet_nla
use Rattle.sock_diag_attributes.specs.declared.unix.name.SocketName.{SocketName}
use Rattle.sock_diag_attributes.specs.declared.unix.nlas.UnixNla.{UnixNla}
use Rattle.sock_diag_attributes.specs.declared.unix.nlas.UnixNla.TheVariants as unix_nla
use Rattle.sock_diag_families.specs.PacketAttributes.{parse_packet_info, parse_packet_ring}
use Rattle.sock_diag_families.specs.XdpAttributes.{parse_xdp_info, parse_xdp_statistics}
use Rattle.sock_diag_families.specs.XdpAttributes.{parse_xdp_umem}
use Rattle.sock_diag_families.specs.declared.netlink.TheConstants as netlink
use Rattle.sock_diag_families.specs.declared.packet.TheConstants as packet
use Rattle.sock_diag_families.specs.declared.packet.attributes.PacketInfo.{PacketInfo}
use Rattle.sock_diag_families.specs.declared.packet.attributes.PacketRing.{PacketRing}
use Rattle.sock_diag_families.specs.declared.xdp.TheConstants as xdp
use Rattle.sock_diag_families.specs.declared.xdp.attributes.XdpInfo.{XdpInfo}
use Rattle.sock_diag_families.specs.declared.xdp.attributes.XdpStatistics.{XdpStatistics}
use Rattle.sock_diag_families.specs.declared.xdp.attributes.XdpUmem.{XdpUmem}
use Rattle.sock_diag_extras.specs.Congestion.{bbr_info, dctcp_info, vegas_info}
use Rattle.sock_diag_extras.specs.FilterInstruction.{filter_instruction}
use Rattle.sock_diag_extras.specs.Md5Signature.{md5_signature}
use Rattle.sock_diag_extras.specs.Models.{mptcp_info_bytes, nested_bytes, tcp_info_bytes}
use Rattle.sock_diag_extras.specs.PacketMembership.{packet_membership}
use Rattle.sock_diag_any.specs.Pieces.{framing_error_of, pieces_in}
use Rattle.sock_diag_extras.specs.RecordTable.{RecordTable, parse_by_table}
use Rattle.sock_diag_extras.specs.SocketOptions.{socket_options}
use Rattle.sock_diag_extras.specs.StoredAddress.{stored_address}
use Rattle.sock_diag_any.specs.declared.nla.AnyNla.{AnyNla}
use Rattle.sock_diag_any.specs.declared.nla.AnyNla.TheVariants as nla
use Rattle.sock_diag_any.specs.declared.nla.InfoFormat.{InfoFormat}
use Rattle.sock_diag_any.specs.declared.nla.InfoFormat.TheVariants.{Mptcp, Sctp, Tcp}
use Rattle.sock_diag_any.specs.declared.nla.InfoFormat.TheVariants.{Unknown}
use Rattle.sock_diag_any.specs.declared.nla.Sockets.{Sockets}
use Rattle.sock_diag_any.specs.declared.nla.Sockets.TheVariants as sockets
use Rattle.sock_diag_extras.specs.declared.congestion.BbrInfo.{BbrInfo}
use Rattle.sock_diag_extras.specs.declared.congestion.DctcpInfo.{DctcpInfo}
use Rattle.sock_diag_extras.specs.declared.congestion.VegasInfo.{VegasInfo}
use Rattle.sock_diag_extras.specs.declared.constants.TheConstants as extra
use Rattle.sock_diag_extras.specs.declared.options.SocketOptions.{SocketOptions}

-- ---- values

-- What an attribute says. The constructors have the names of the variants of `AnyNla`, which says
-- what each one is. An array of records, nested attributes and a struct of any length are bytes.
pub data AnyValue : Type 0 where
  name : SocketName (List ℕ) → AnyValue
  vfs : Vfs → AnyValue
  peer : ℕ → AnyValue
  pending_connections : List ℕ → AnyValue
  queue_lengths : ℕ → ℕ → AnyValue
  memory : MemInfo → AnyValue
  shutdown owner : ℕ → AnyValue
  legacy_memory : LegacyMemInfo → AnyValue
  tcp_info mptcp_info congestion : List ℕ → AnyValue
  tos traffic_class protocol mark class_id : ℕ → AnyValue
  v6_only : Bool → AnyValue
  vegas : VegasInfo → AnyValue
  dctcp : DctcpInfo → AnyValue
  bbr : BbrInfo → AnyValue
  local_addresses peer_addresses md5_signatures ulp bpf_storages : List ℕ → AnyValue
  cgroup_id : ℕ → AnyValue
  options : SocketOptions → AnyValue
  groups : List ℕ → AnyValue
  netlink_flags : ℕ → AnyValue
  packet_info : PacketInfo → AnyValue
  memberships : List ℕ → AnyValue
  receive_frames send_frames : PacketRing → AnyValue
  fanout : ℕ → AnyValue
  filter : List ℕ → AnyValue
  xdp_info : XdpInfo → AnyValue
  receive_ring send_ring fill_ring completion_ring : ℕ → AnyValue
  umem : XdpUmem → AnyValue
  statistics : XdpStatistics → AnyValue
  -- an attribute of any other kind
  unknown : Attribute → AnyValue

-- what a decoded attribute (`AnyNla` of `src/nla.rt`) says
abbrev pub any_model : AnyNla → AnyValue
any_model (nla.Name n) = name (name_view_model n)
any_model (nla.Vfs file) = vfs file
any_model (nla.Peer inode) = peer inode
any_model (nla.PendingConnections inodes) = pending_connections (numbers_view_model inodes)
any_model (nla.QueueLengths receive send) = queue_lengths receive send
any_model (nla.Memory m) = memory m
any_model (nla.Shutdown directions) = shutdown directions
any_model (nla.Owner user) = owner user
any_model (nla.LegacyMemory m) = legacy_memory m
any_model (nla.TcpInfo info) = tcp_info (tcp_info_bytes info)
any_model (nla.MptcpInfo info) = mptcp_info (mptcp_info_bytes info)
any_model (nla.Congestion algorithm) = congestion algorithm.now
any_model (nla.Tos n) = tos n
any_model (nla.TrafficClass n) = traffic_class n
any_model (nla.Protocol n) = protocol n
any_model (nla.V6Only only) = v6_only only
any_model (nla.Mark n) = mark n
any_model (nla.ClassId n) = class_id n
any_model (nla.Vegas info) = vegas info
any_model (nla.Dctcp info) = dctcp info
any_model (nla.Bbr info) = bbr info
any_model (nla.LocalAddresses records) = local_addresses records.now
any_model (nla.PeerAddresses records) = peer_addresses records.now
any_model (nla.Md5Signatures records) = md5_signatures records.now
any_model (nla.Ulp info) = ulp (nested_bytes info.0)
any_model (nla.BpfStorages nested) = bpf_storages (nested_bytes nested)
any_model (nla.CgroupId id) = cgroup_id id
any_model (nla.Options of_socket) = options of_socket
any_model (nla.Groups bits) = groups bits.now
any_model (nla.NetlinkFlags bits) = netlink_flags bits
any_model (nla.PacketInfo info) = packet_info info
any_model (nla.Memberships records) = memberships records.now
any_model (nla.ReceiveFrames ring) = receive_frames ring
any_model (nla.SendFrames ring) = send_frames ring
any_model (nla.Fanout n) = fanout n
any_model (nla.Filter program) = filter program.now
any_model (nla.XdpInfo info) = xdp_info info
any_model (nla.ReceiveRing entries) = receive_ring entries
any_model (nla.SendRing entries) = send_ring entries
any_model (nla.FillRing entries) = fill_ring entries
any_model (nla.CompletionRing entries) = completion_ring entries
any_model (nla.Umem m) = umem m
any_model (nla.Statistics counters) = statistics counters
any_model (nla.Unknown a) = unknown (buffered_attribute a)

-- ---- rows

-- A row of a table: a kind, and what an attribute of this kind says, or the error of its value.
pub record KindRow : Type 0 where
  pub kind : ℕ
  pub read : Attribute → Result AnyValue DecodeError

-- `row kind parse value`: an attribute of this kind says `value` of what `parse` returns for its
-- bytes, or the error of `parse`.
abbrev pub row : {A : Type 0} → ℕ → (List ℕ → Result A DecodeError) → (A → AnyValue) → KindRow
row kind parse value = record { kind = kind; read = λ a. map_ok value (parse a.value) }

-- `number_row kind width value`: the bytes are a little-endian number of this width, or else
-- WrongLength.
abbrev pub number_row : ℕ → (width : ℕ) → (ℕ → AnyValue) → KindRow
number_row kind width value = row kind (number_of_width (Some kind) width) value

-- `parse_sized kind layout bytes`: the record of this layout at the start of the bytes; WrongLength
-- with the kind if there are fewer bytes than it has
abbrev pub parse_sized : {A : Type 0} → ℕ → RecordTable A → List ℕ → Result A DecodeError
parse_sized kind layout bytes =
    if nat_le layout.size (length bytes) then Ok (parse_by_table layout bytes)
    else Err (WrongLength (Some kind) (length bytes) layout.size)

-- `record_row kind layout value`: the bytes start with a record of this layout.
abbrev pub record_row : {A : Type 0} → ℕ → RecordTable A → (A → AnyValue) → KindRow
record_row kind layout value = row kind (parse_sized kind layout) value

-- `whole_records kind layout bytes`: the bytes, if they are records of this layout, or none, and
-- nothing else; WrongLength with the kind and the size of a record if they are not
abbrev pub whole_records : {A : Type 0} → ℕ → RecordTable A → List ℕ → Result (List ℕ) DecodeError
whole_records kind layout bytes =
    if length bytes % layout.size == 0 then Ok bytes
    else Err (WrongLength (Some kind) (length bytes) layout.size)

-- the bytes, if they consist of attributes; or their framing error
unfoldable pub framed : List ℕ → Result (List ℕ) DecodeError
framed bytes = option_map_or Err (framing_error_of (pieces_in bytes)) (Ok bytes)

-- UNIX sockets (linux/unix_diag.h)
abbrev pub unix_rows : List KindRow
unix_rows = number_row extra.UNIX_DIAG_UID 4 owner ∷ []

-- INET_DIAG_INFO, by the format of its struct. A struct of TCP or MPTCP may have any length. That
-- of SCTP is not decoded. If the format is not known, the port decodes it.
abbrev pub info_rows : InfoFormat → List KindRow
info_rows Tcp = row c.INET_DIAG_INFO Ok tcp_info ∷ []
info_rows Mptcp = row c.INET_DIAG_INFO Ok mptcp_info ∷ []
info_rows Sctp = record { kind = c.INET_DIAG_INFO; read = λ a. Ok (unknown a) } ∷ []
info_rows Unknown = []

-- IPv4 and IPv6 sockets (linux/inet_diag.h): records and numbers
abbrev pub inet_record_rows : List KindRow
inet_record_rows =
    record_row c.INET_DIAG_VEGASINFO vegas_info vegas ∷
    record_row c.INET_DIAG_DCTCPINFO dctcp_info dctcp ∷
    record_row c.INET_DIAG_BBRINFO bbr_info bbr ∷
    number_row extra.INET_DIAG_CGROUP_ID 8 cgroup_id ∷
    record_row extra.INET_DIAG_SOCKOPT socket_options options ∷ []

-- IPv4 and IPv6 sockets: arrays of records, and nested attributes
abbrev pub inet_list_rows : List KindRow
inet_list_rows =
    row c.INET_DIAG_LOCALS (whole_records c.INET_DIAG_LOCALS stored_address) local_addresses ∷
    row c.INET_DIAG_PEERS (whole_records c.INET_DIAG_PEERS stored_address) peer_addresses ∷
    row c.INET_DIAG_MD5SIG (whole_records c.INET_DIAG_MD5SIG md5_signature) md5_signatures ∷
    row extra.INET_DIAG_ULP_INFO framed ulp ∷
    row extra.INET_DIAG_SK_BPF_STORAGES framed bpf_storages ∷ []

-- netlink sockets (linux/netlink_diag.h)
abbrev pub netlink_rows : List KindRow
netlink_rows =
    row netlink.NETLINK_DIAG_MEMINFO (parse_record mem_info tt) memory ∷
    row netlink.NETLINK_DIAG_GROUPS Ok groups ∷
    number_row netlink.NETLINK_DIAG_FLAGS 4 netlink_flags ∷ []

-- packet sockets (linux/packet_diag.h)
abbrev pub packet_rows : List KindRow
packet_rows =
    row packet.PACKET_DIAG_INFO parse_packet_info packet_info ∷
    row packet.PACKET_DIAG_MCLIST (whole_records packet.PACKET_DIAG_MCLIST packet_membership)
    memberships ∷
    row packet.PACKET_DIAG_RX_RING (parse_packet_ring packet.PACKET_DIAG_RX_RING) receive_frames ∷
    row packet.PACKET_DIAG_TX_RING (parse_packet_ring packet.PACKET_DIAG_TX_RING) send_frames ∷
    number_row packet.PACKET_DIAG_FANOUT 4 fanout ∷
    number_row packet.PACKET_DIAG_UID 4 owner ∷
    row packet.PACKET_DIAG_MEMINFO (parse_record mem_info tt) memory ∷
    row packet.PACKET_DIAG_FILTER (whole_records packet.PACKET_DIAG_FILTER filter_instruction)
    filter ∷ []

-- XDP sockets (linux/xdp_diag.h)
abbrev pub xdp_rows : List KindRow
xdp_rows =
    row xdp.XDP_DIAG_INFO parse_xdp_info xdp_info ∷
    number_row xdp.XDP_DIAG_UID 4 owner ∷
    number_row xdp.XDP_DIAG_RX_RING 4 receive_ring ∷
    number_row xdp.XDP_DIAG_TX_RING 4 send_ring ∷
    row xdp.XDP_DIAG_UMEM parse_xdp_umem umem ∷
    number_row xdp.XDP_DIAG_UMEM_FILL_RING 4 fill_ring ∷
    number_row xdp.XDP_DIAG_UMEM_COMPLETION_RING 4 completion_ring ∷
    row xdp.XDP_DIAG_MEMINFO (parse_record mem_info tt) memory ∷
    row xdp.XDP_DIAG_STATS parse_xdp_statistics statistics ∷ []

-- ---- reading

-- `read_by rows others a`: what the attribute `a` says by the row of its kind, or by `others` if no
-- row has its kind; its two flag bits are not considered
abbrev pub read_by : List KindRow → (Attribute → Result AnyValue DecodeError) → Attribute
    → Result AnyValue DecodeError
read_by [] others a = others a
read_by (first ∷ later) others a =
    if attribute_kind a == first.kind then first.read a else read_by later others a

-- an attribute of a kind that is not known
abbrev pub read_unknown : Attribute → Result AnyValue DecodeError
read_unknown a = Ok (unknown a)

-- `unix_value a decoded`: what the attribute `a` of a UNIX socket says, which the port decodes as
-- `decoded`. The memory has nine fields, of which the port has three.
abbrev pub unix_value : Attribute → UnixNla (SocketName (List ℕ)) (List ℕ) Attribute
    → Result AnyValue DecodeError
unix_value a (unix_nla.Name n) = Ok (name n)
unix_value a (unix_nla.Vfs file) = Ok (vfs file)
unix_value a (unix_nla.Peer inode) = Ok (peer inode)
unix_value a (unix_nla.PendingConnections inodes) = Ok (pending_connections inodes)
unix_value a (unix_nla.ReceiveQueueLength receive send) = Ok (queue_lengths receive send)
unix_value a (unix_nla.MemInfo m) = map_ok memory (parse_record mem_info tt a.value)
unix_value a (unix_nla.Shutdown directions) = Ok (shutdown directions)
unix_value a (unix_nla.Other other) = Ok (unknown other)

-- `inet_value a decoded`: what the attribute `a` of an IPv4 or IPv6 socket says, which the port
-- decodes as `decoded`. A `struct tcp_info` is all of its bytes, which may be more than the port
-- decodes.
abbrev pub inet_value : Attribute → InetNla (List ℕ) Attribute → AnyValue
inet_value a (inet_nla.LegacyMemInfo m) = legacy_memory m
inet_value a (inet_nla.TcpInfo info) = tcp_info a.value
inet_value a (inet_nla.Congestion algorithm) = congestion algorithm
inet_value a (inet_nla.Tos n) = tos n
inet_value a (inet_nla.Tc n) = traffic_class n
inet_value a (inet_nla.MemInfo m) = memory m
inet_value a (inet_nla.Shutdown directions) = shutdown directions
inet_value a (inet_nla.Protocol n) = protocol n
inet_value a (inet_nla.SkV6Only only) = v6_only only
inet_value a (inet_nla.Mark n) = mark n
inet_value a (inet_nla.ClassId n) = class_id n
inet_value a (inet_nla.Other other) = unknown other

-- `and_then result next`: `next` of the value of the result; an error is unchanged
abbrev pub and_then : {A B : Type 0} → Result A DecodeError → (A → Result B DecodeError)
    → Result B DecodeError
and_then (Ok value) next = next value
and_then (Err e) next = Err e

-- what an attribute of a UNIX socket says that no row reads: the port's value, or its error
abbrev pub read_port_unix : Attribute → Result AnyValue DecodeError
read_port_unix a =
    and_then (decode_attribute unix_attribute_set a)
    (λ decoded. unix_value a (unix_variant decoded))

-- what an attribute of an IPv4 or IPv6 socket says that no row reads: the port's value, or its
-- error
abbrev pub read_port_inet : Attribute → Result AnyValue DecodeError
read_port_inet a =
    map_ok (λ decoded. inet_value a (inet_variant decoded)) (decode_attribute inet_attribute_set a)

-- `read_any sockets a`: what the attribute `a` of a reply about these sockets says, or its error.
-- Vsock sockets have no attributes that are known.
abbrev pub read_any : Sockets → Attribute → Result AnyValue DecodeError
read_any sockets.Unix a = read_by unix_rows read_port_unix a
read_any (sockets.Inet format) a =
    read_by (info_rows format) (read_by inet_record_rows (read_by inet_list_rows read_port_inet)) a
read_any sockets.Netlink a = read_by netlink_rows read_unknown a
read_any sockets.Packet a = read_by packet_rows read_unknown a
read_any sockets.Vsock a = read_unknown a
read_any sockets.Xdp a = read_by xdp_rows read_unknown a
