-- Facts of the attributes of netlink, packet and XDP sockets. Names in JSON are the kernel's names
-- in lowercase, without the prefix that all names of a struct or an enum have. The table has the
-- texts of ss(8), except for the groups and the flags of a netlink socket, and the flags of a
-- packet socket.
use Rattle.std.specs.Prelude.{ℕ, ◌+◌, ◌/◌, ◌%◌, ◌==◌, if◌then◌else◌, List, [], ◌∷◌, ◌++◌, codes}
use Rattle.std.specs.Prelude.{None, Some, bit_and, flat_map, take}
use Rattle.sock_diag_families.specs.declared.packet.attributes.PacketInfo.{PacketInfo}
use Rattle.sock_diag_families.specs.declared.packet.attributes.PacketRing.{PacketRing}
use Rattle.sock_diag_families.specs.declared.xdp.attributes.XdpInfo.{XdpInfo}
use Rattle.sock_diag_families.specs.declared.xdp.attributes.XdpStatistics.{XdpStatistics}
use Rattle.sock_diag_families.specs.declared.xdp.attributes.XdpUmem.{XdpUmem}
use Rattle.sslist_facts.specs.Facts.{Facts, flag_number, group, hidden_number, json_group}
use Rattle.sslist_facts.specs.Facts.{list_facts, numbers, shown_number}
use Rattle.sslist_facts.specs.declared.facts.Shown.TheVariants.{Always, FanoutMode, Hex}
use Rattle.sslist_facts.specs.declared.family_facts.TheConstants.{GROUP_BITS, MAX_MASK_LENGTH}

-- ---- netlink sockets

-- `group_of_bit first byte row`: the group of the bit `row.0`, whose index is `row.1`, if the bit
-- is set in a byte of a mask, the lowest bit of which is the group `first`
abbrev pub group_of_bit : ℕ → ℕ → ℕ × ℕ → List ℕ
group_of_bit first byte row = if bit_and byte row.0 == 0 then [] else (first + row.1) ∷ []

-- `groups_in_byte first byte`: the groups whose bits are set in such a byte
abbrev pub groups_in_byte : ℕ → ℕ → List ℕ
groups_in_byte first byte = flat_map (group_of_bit first byte) GROUP_BITS

-- `groups_from first mask`: the groups whose bits are set in a mask, in order. The lowest bit of
-- its first byte is the group `first`, and each byte has eight bits.
abbrev pub groups_from : ℕ → List ℕ → List ℕ
groups_from first [] = []
groups_from first (byte ∷ later) = groups_in_byte first byte ++ groups_from (first + 8) later

-- the groups of a netlink socket, by the value of NETLINK_DIAG_GROUPS, whose lowest bit is group 1.
-- An attribute has fewer bytes than MAX_MASK_LENGTH.
abbrev pub groups_in : List ℕ → List ℕ
groups_in mask = groups_from 1 (take MAX_MASK_LENGTH mask)

-- the groups of a netlink socket: numbers, separated by commas in the table
abbrev pub groups_facts : List ℕ → Facts
groups_facts mask =
    list_facts (codes " groups:") (codes ",") (codes "groups") (groups_in mask)

-- the flags of a netlink socket, NETLINK_DIAG_FLAGS. The table has a name for each bit
-- NDIAG_FLAG_.. of linux/netlink_diag.h that is set.
unfoldable pub netlink_flags_facts : ℕ → Facts
netlink_flags_facts bits = numbers (
    hidden_number (codes "flags") bits ∷
    flag_number 1 (codes " cb_running") bits ∷ flag_number 2 (codes " pktinfo") bits ∷
    flag_number 4 (codes " broadcast_error") bits ∷ flag_number 8 (codes " no_enobufs") bits ∷
    flag_number 16 (codes " listen_all_nsid") bits ∷ flag_number 32 (codes " cap_ack") bits ∷ [])

-- ---- packet sockets

-- PACKET_DIAG_INFO, `struct packet_diag_info` of linux/packet_diag.h. The table has a name for each
-- bit PDI_.. of `pdi_flags` that is set.
unfoldable pub packet_facts : PacketInfo → Facts
packet_facts p =
    json_group (codes "info") (numbers (
    hidden_number (codes "index") p.interface ∷
    shown_number (codes " ver:") (codes "version") p.version ∷
    hidden_number (codes "reserve") p.reserve ∷
    shown_number (codes " cpy_thresh:") (codes "copy_thresh") p.copy_threshold ∷
    hidden_number (codes "tstamp") p.timestamp ∷
    hidden_number (codes "flags") p.flags ∷
    flag_number 1 (codes " running") p.flags ∷ flag_number 2 (codes " auxdata") p.flags ∷
    flag_number 4 (codes " origdev") p.flags ∷ flag_number 8 (codes " vnethdr") p.flags ∷
    flag_number 16 (codes " loss") p.flags ∷ []))

-- `packet_ring_facts opening member ring`: a ring of a packet socket, `struct packet_diag_ring`:
-- the object `member` in JSON, after the text `opening` in the table. The timeout is in
-- milliseconds, and sizes are in bytes.
unfoldable pub packet_ring_facts : List ℕ → List ℕ → PacketRing → Facts
packet_ring_facts opening member ring =
    group opening (codes ")") member (numbers (
    shown_number (codes "blk_size:") (codes "block_size") ring.block_size ∷
    shown_number (codes ",blk_nr:") (codes "block_nr") ring.blocks ∷
    shown_number (codes ",frm_size:") (codes "frame_size") ring.frame_size ∷
    shown_number (codes ",frm_nr:") (codes "frame_nr") ring.frames ∷
    shown_number (codes ",tmo:") (codes "retire_tmo") ring.retire_timeout ∷
    hidden_number (codes "sizeof_priv") ring.private_size ∷
    (Hex, codes ",features:0x", Some (codes "features"), Some ring.features) ∷ []))

-- PACKET_DIAG_FANOUT: the id of the fanout group in the low 16 bits, and its mode,
-- PACKET_FANOUT_.. of linux/if_packet.h, in the high 16 bits
unfoldable pub fanout_facts : ℕ → Facts
fanout_facts n =
    group (codes " fanout(") (codes ")") (codes "fanout") (numbers (
    shown_number (codes "id:") (codes "id") (n % 65536) ∷
    (FanoutMode, codes ",type:", Some (codes "type"), Some (n / 65536)) ∷ []))

-- ---- XDP sockets

-- XDP_DIAG_INFO, `struct xdp_diag_info` of linux/xdp_diag.h. Only JSON has it here, since the table
-- has a column for it.
unfoldable pub xdp_facts : XdpInfo → Facts
xdp_facts x =
    json_group (codes "info") (numbers (
    hidden_number (codes "ifindex") x.interface ∷ hidden_number (codes "queue_id") x.queue ∷ []))

-- `xdp_ring_facts opening member entries`: a ring of an XDP socket with this number of entries,
-- `struct xdp_diag_ring`: the object `member` in JSON, after the text `opening` in the table
unfoldable pub xdp_ring_facts : List ℕ → List ℕ → ℕ → Facts
xdp_ring_facts opening member entries =
    group opening (codes ")") member
    (numbers (shown_number (codes "entries:") (codes "entries") entries ∷ []))

-- XDP_DIAG_UMEM, `struct xdp_diag_umem`: the memory that an XDP socket shares with its program.
-- Sizes are in bytes. `zc:` is the lowest bit of the flags, XDP_DU_F_ZEROCOPY.
unfoldable pub umem_facts : XdpUmem → Facts
umem_facts m =
    group (codes " umem(") (codes ")") (codes "umem") (numbers (
    shown_number (codes "id:") (codes "id") m.id ∷
    shown_number (codes ",size:") (codes "size") m.size ∷
    shown_number (codes ",num_pages:") (codes "num_pages") m.pages ∷
    shown_number (codes ",chunk_size:") (codes "chunk_size") m.chunk_size ∷
    shown_number (codes ",headroom:") (codes "headroom") m.headroom ∷
    shown_number (codes ",ifindex:") (codes "ifindex") m.interface ∷
    shown_number (codes ",qid:") (codes "queue_id") m.queue ∷
    (Always, codes ",zc:", None, Some (m.flags % 2)) ∷
    hidden_number (codes "flags") m.flags ∷
    shown_number (codes ",refs:") (codes "refs") m.references ∷ []))

-- XDP_DIAG_STATS, `struct xdp_diag_stats`: the counters of an XDP socket
unfoldable pub xdp_statistics_facts : XdpStatistics → Facts
xdp_statistics_facts s =
    group (codes " stats(") (codes ")") (codes "stats") (numbers (
    shown_number (codes "rx dropped:") (codes "rx_dropped") s.received_dropped ∷
    shown_number (codes ",rx invalid:") (codes "rx_invalid") s.received_invalid ∷
    shown_number (codes ",rx queue full:") (codes "rx_full") s.received_full ∷
    shown_number (codes ",rx fill ring empty:") (codes "fill_ring_empty") s.fill_ring_empty ∷
    shown_number (codes ",tx invalid:") (codes "tx_invalid") s.sent_invalid ∷
    shown_number (codes ",tx ring empty:") (codes "tx_ring_empty") s.send_ring_empty ∷ []))
