-- The numbers of the constants that definitions name.
use Rattle.std.proofs.Common.{◌≡◌, refl}
use Rattle.netlink_captures.specs.declared.captures.TheConstants as pcap
use Rattle.netlink_captures.specs.declared.pcapng.TheConstants as pcapng

-- the pcap format, as in pcap-savefile(5)
pub pcap_numbers : (pcap.MAGIC_MICROSECONDS ≡ 0xa1b2c3d4) × (pcap.MAGIC_NANOSECONDS ≡ 0xa1b23c4d)
    × (pcap.MAJOR_VERSION ≡ 2) × (pcap.FILE_HEADER_LEN ≡ 24) × (pcap.PACKET_HEADER_LEN ≡ 16)
    × (pcap.LINK_TYPES ≡ 65536)
pcap_numbers = (refl, refl, refl, refl, refl, refl)

-- LINKTYPE_NETLINK of tcpdump.org/linktypes.html, and <linux/if_arp.h> and <linux/netlink.h>
pub netlink_numbers : (pcap.LINKTYPE_NETLINK ≡ 253) × (pcap.COOKED_HEADER_LEN ≡ 16)
    × (pcap.ARPHRD_NETLINK ≡ 824) × (pcap.NETLINK_SOCK_DIAG ≡ 4)
netlink_numbers = (refl, refl, refl, refl)

-- the pcapng format, as in draft-ietf-opsawg-pcapng: types of blocks, and other codes
pub pcapng_numbers : (pcapng.SECTION_HEADER ≡ 0x0a0d0d0a) × (pcapng.INTERFACE_DESCRIPTION ≡ 1)
    × (pcapng.OBSOLETE_PACKET ≡ 2) × (pcapng.SIMPLE_PACKET ≡ 3) × (pcapng.ENHANCED_PACKET ≡ 6)
    × (pcapng.BYTE_ORDER_MAGIC ≡ 0x1a2b3c4d) × (pcapng.MAJOR_VERSION ≡ 1)
    × (pcapng.END_OF_OPTIONS ≡ 0) × (pcapng.TIME_RESOLUTION ≡ 9)
pcapng_numbers = (refl, refl, refl, refl, refl, refl, refl, refl, refl)

-- the same draft: lengths of the shortest blocks, and offsets of packets
pub pcapng_lengths : (pcapng.MIN_BLOCK_LEN ≡ 12) × (pcapng.MIN_SECTION_HEADER_LEN ≡ 28)
    × (pcapng.MIN_INTERFACE_LEN ≡ 20) × (pcapng.MIN_SIMPLE_PACKET_LEN ≡ 16)
    × (pcapng.MIN_ENHANCED_PACKET_LEN ≡ 32) × (pcapng.SIMPLE_PACKET_START ≡ 12)
    × (pcapng.ENHANCED_PACKET_START ≡ 28)
pcapng_lengths = (refl, refl, refl, refl, refl, refl, refl)

-- limits of the reader: that of tcpdump(1) for a packet, and its own for a block and for the
-- interfaces of a section
pub limits : (pcap.MAX_PACKET_LEN ≡ 262144) × (pcapng.MAX_BLOCK_LEN ≡ 16777216)
    × (pcapng.MAX_INTERFACES ≡ 4096)
limits = (refl, refl, refl)
