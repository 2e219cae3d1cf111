-- The header of a reply about an XDP socket, 16 bytes.
use Rattle.std.specs.Prelude.{⊤, ℕ, List, [], ◌∷◌, slice_index}
use Rattle.netlink_core.specs.Layout.{Layout, plain}
use Rattle.netlink_core.specs.Rows.{skip, u8, u32, u64}
use Rattle.netlink_core.specs.declared.error.RecordName.TheVariants as name
use Rattle.sock_diag_families.specs.declared.xdp.response.XdpResponseHeader.{XdpResponseHeader}
use Rattle.sock_diag_families.specs.declared.xdp.TheConstants.{AF_XDP}

-- `xdp_header_of values`: the header with these numbers in the fields that are not ignored, in the
-- order of the rows of `xdp_header`
abbrev pub xdp_header_of : List ℕ → XdpResponseHeader
xdp_header_of values = record {
  kind = slice_index values 0;
  inode = slice_index values 1;
  cookie = slice_index values 2;
}

-- `struct xdp_diag_msg` (linux/xdp_diag.h), by offsets:
--   0  `xdiag_family`: ignored, and serialized as AF_XDP
--   1  `xdiag_type`
--   2  `pad`, two bytes: ignored, and serialized as 0
--   4  `xdiag_ino`
--   8  `xdiag_cookie`
abbrev pub xdp_header : Layout (Unit {0}) (Unit {0}) XdpResponseHeader
xdp_header = plain (name.FamilyResponseHeader AF_XDP) 16 (
    skip 0 (AF_XDP ∷ []) ∷
    u8 1 XdpResponseHeader.kind ∷
    skip 2 (0 ∷ 0 ∷ []) ∷
    u32 4 XdpResponseHeader.inode ∷
    u64 8 XdpResponseHeader.cookie ∷ []) xdp_header_of (λ value. ⊤)
