-- The cooked header of a packet with the link type LINKTYPE_NETLINK: 16 bytes before the datagram.
-- Its numbers are big-endian.
use Rattle.std.specs.Prelude.{◌≡◌, ⊤, ℕ, ◌<◌, ◌≤◌, List, length, drop}
use Rattle.netlink_captures.specs.Capture.{u16_at}
use Rattle.netlink_captures.specs.declared.captures.ByteOrder.TheVariants.{BigEndian}
use Rattle.netlink_captures.specs.declared.captures.Packet.{Packet}
use Rattle.netlink_captures.specs.declared.captures.TheConstants as c
use Rattle.netlink_captures.specs.declared.captures.Packet.TheVariants.{SockDiag, Other, Short}

-- `IsOfSockDiag bytes`: the packet is one of sock_diag(7), by its cooked header: the hardware type
-- at 2 is 824 (ARPHRD_NETLINK), and the protocol at 14 is 4 (NETLINK_SOCK_DIAG)
abbrev pub IsOfSockDiag : List ℕ → Type 0
IsOfSockDiag bytes = (u16_at BigEndian 2 bytes ≡ c.ARPHRD_NETLINK)
    × (u16_at BigEndian 14 bytes ≡ c.NETLINK_SOCK_DIAG)

-- `IsPacketOf bytes packet`: the content of a packet of these bytes: Short if there are fewer than
-- 16; SockDiag with the bytes from 16 on if the packet is one of sock_diag(7); or else Other.
abbrev pub IsPacketOf : List ℕ → Packet → Type 0
IsPacketOf bytes (SockDiag datagram) = (c.COOKED_HEADER_LEN ≤ length bytes) × IsOfSockDiag bytes
    × (datagram.now ≡ drop c.COOKED_HEADER_LEN bytes)
IsPacketOf bytes Other = (c.COOKED_HEADER_LEN ≤ length bytes) × ¬ IsOfSockDiag bytes
IsPacketOf bytes Short = length bytes < c.COOKED_HEADER_LEN

-- `AreEqualPackets packet other`: the two packets are of the same kind; if they have datagrams,
-- these are equal
abbrev pub AreEqualPackets : Packet → Packet → Type 0
AreEqualPackets (SockDiag datagram) (SockDiag other) = datagram.now ≡ other.now
AreEqualPackets Other Other = ⊤
AreEqualPackets Short Short = ⊤
AreEqualPackets _ _ = ⊥
