-- The header of a reply about a netlink socket, 28 bytes.
use Rattle.std.specs.Prelude.{⊤, ℕ, List, [], ◌∷◌, slice_index}
use Rattle.netlink_core.specs.Layout.{Layout, plain}
use Rattle.netlink_core.specs.Rows.{skip, u8, u32, u64}
use Rattle.netlink_core.specs.declared.error.RecordName.TheVariants as name
use Rattle.sock_diag_families.specs.declared.netlink.response.NetlinkResponseHeader.{
  NetlinkResponseHeader,
}
use Rattle.sock_diag_records.specs.declared.constants.TheConstants.{AF_NETLINK}

-- `netlink_header_of values`: the header with these numbers in the fields that are not ignored, in
-- the order of the rows of `netlink_header`
abbrev pub netlink_header_of : List ℕ → NetlinkResponseHeader
netlink_header_of values = record {
  kind = slice_index values 0;
  protocol = slice_index values 1;
  state = slice_index values 2;
  port = slice_index values 3;
  destination_port = slice_index values 4;
  destination_group = slice_index values 5;
  inode = slice_index values 6;
  cookie = slice_index values 7;
}

-- `struct netlink_diag_msg` (linux/netlink_diag.h). `ndiag_family` at 0 is ignored, and serialized
-- as AF_NETLINK. The other rows are, in order, `ndiag_type`, `ndiag_protocol`, `ndiag_state`,
-- `ndiag_portid`, `ndiag_dst_portid`, `ndiag_dst_group`, `ndiag_ino`, `ndiag_cookie`.
abbrev pub netlink_header : Layout (Unit {0}) (Unit {0}) NetlinkResponseHeader
netlink_header = plain (name.FamilyResponseHeader AF_NETLINK) 28 (
    skip 0 (AF_NETLINK ∷ []) ∷
    u8 1 NetlinkResponseHeader.kind ∷
    u8 2 NetlinkResponseHeader.protocol ∷
    u8 3 NetlinkResponseHeader.state ∷
    u32 4 NetlinkResponseHeader.port ∷
    u32 8 NetlinkResponseHeader.destination_port ∷
    u32 12 NetlinkResponseHeader.destination_group ∷
    u32 16 NetlinkResponseHeader.inode ∷
    u64 20 NetlinkResponseHeader.cookie ∷ []) netlink_header_of (λ value. ⊤)
