-- The header of a reply about a packet socket, 16 bytes.
use Rattle.std.specs.Prelude.{⊤, ℕ, List, [], ◌∷◌, slice_index}
use Rattle.netlink_core.specs.Layout.{Layout, plain}
use Rattle.netlink_core.specs.Rows.{skip, u8, u16, u32, u64}
use Rattle.netlink_core.specs.declared.error.RecordName.TheVariants as name
use Rattle.sock_diag_families.specs.declared.packet.response.PacketResponseHeader.{
  PacketResponseHeader,
}
use Rattle.sock_diag_records.specs.declared.constants.TheConstants.{AF_PACKET}

-- `packet_header_of values`: the header with these numbers in the fields that are not ignored, in
-- the order of the rows of `packet_header`
abbrev pub packet_header_of : List ℕ → PacketResponseHeader
packet_header_of values = record {
  kind = slice_index values 0;
  protocol = slice_index values 1;
  inode = slice_index values 2;
  cookie = slice_index values 3;
}

-- `struct packet_diag_msg` (linux/packet_diag.h). `pdiag_family` at 0 is ignored, and serialized as
-- AF_PACKET. The other rows are, in order, `pdiag_type`, `pdiag_num`, `pdiag_ino`, `pdiag_cookie`.
abbrev pub packet_header : Layout (Unit {0}) (Unit {0}) PacketResponseHeader
packet_header = plain (name.FamilyResponseHeader AF_PACKET) 16 (
    skip 0 (AF_PACKET ∷ []) ∷
    u8 1 PacketResponseHeader.kind ∷
    u16 2 PacketResponseHeader.protocol ∷
    u32 4 PacketResponseHeader.inode ∷
    u64 8 PacketResponseHeader.cookie ∷ []) packet_header_of (λ value. ⊤)
