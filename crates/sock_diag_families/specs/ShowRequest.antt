-- The request for netlink, packet and XDP sockets, 20 bytes.
use Rattle.std.specs.Prelude.{⊤, ℕ, ◌%◌, List, [], ◌∷◌, slice_index}
use Rattle.netlink_core.specs.Layout.{Layout, plain}
use Rattle.netlink_core.specs.Rows.{skip, u8, u32, u64}
use Rattle.netlink_core.specs.declared.error.RecordName.TheVariants as name
use Rattle.sock_diag_families.specs.declared.request.ShowRequest.{ShowRequest}

-- `show_request_of values`: the request with these numbers in the fields that are not ignored, in
-- the order of the rows of `show_request`
abbrev pub show_request_of : {family : ℕ} → List ℕ → ShowRequest family
show_request_of values = record {
  protocol = slice_index values 0;
  inode = slice_index values 1;
  show = slice_index values 2;
  cookie = slice_index values 3;
}

-- `show_request family`: `struct netlink_diag_req` (linux/netlink_diag.h) for AF_NETLINK,
-- `struct packet_diag_req` (linux/packet_diag.h) for AF_PACKET, or `struct xdp_diag_req`
-- (linux/xdp_diag.h) for AF_XDP. By offsets:
--   0   `sdiag_family`: ignored, and serialized as the family. A family is below 256; `% 256` makes
--       any other number one byte.
--   1   `sdiag_protocol`
--   2   `pad`, two bytes: ignored, and serialized as 0
--   4   `*_ino`
--   8   `*_show`
--   12  `*_cookie`
abbrev pub show_request : (family : ℕ) → Layout (Unit {0}) (Unit {0}) (ShowRequest family)
show_request family = plain (name.FamilyRequest family) 20 (
    skip 0 (family % 256 ∷ []) ∷
    u8 1 (λ request. request.protocol) ∷
    skip 2 (0 ∷ 0 ∷ []) ∷
    u32 4 (λ request. request.inode) ∷
    u32 8 (λ request. request.show) ∷
    u64 12 (λ request. request.cookie) ∷ []) show_request_of (λ value. ⊤)
