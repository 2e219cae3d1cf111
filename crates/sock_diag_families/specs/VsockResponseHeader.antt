-- The header of a reply about a vsock socket, 32 bytes.
use Rattle.std.specs.Prelude.{⊤, ℕ, List, [], ◌∷◌, slice_index}
use Rattle.netlink_core.specs.Layout.{Layout, plain}
use Rattle.netlink_core.specs.Rows.{skip, u8, u32, u64}
use Rattle.netlink_core.specs.declared.error.RecordName.TheVariants as name
use Rattle.sock_diag_families.specs.declared.vsock.response.VsockResponseHeader.{
  VsockResponseHeader,
}
use Rattle.sock_diag_families.specs.declared.vsock.TheConstants.{AF_VSOCK}

-- `vsock_header_of values`: the header with these numbers in the fields that are not ignored, in
-- the order of the rows of `vsock_header`
abbrev pub vsock_header_of : List ℕ → VsockResponseHeader
vsock_header_of values = record {
  kind = slice_index values 0;
  state = slice_index values 1;
  shutdown = slice_index values 2;
  source_context = slice_index values 3;
  source_port = slice_index values 4;
  destination_context = slice_index values 5;
  destination_port = slice_index values 6;
  inode = slice_index values 7;
  cookie = slice_index values 8;
}

-- `struct vsock_diag_msg` (linux/vm_sockets_diag.h). `vdiag_family` at 0 is ignored, and serialized
-- as AF_VSOCK. The other rows are, in order, `vdiag_type`, `vdiag_state`, `vdiag_shutdown`,
-- `vdiag_src_cid`, `vdiag_src_port`, `vdiag_dst_cid`, `vdiag_dst_port`, `vdiag_ino`,
-- `vdiag_cookie`.
abbrev pub vsock_header : Layout (Unit {0}) (Unit {0}) VsockResponseHeader
vsock_header = plain (name.FamilyResponseHeader AF_VSOCK) 32 (
    skip 0 (AF_VSOCK ∷ []) ∷
    u8 1 VsockResponseHeader.kind ∷
    u8 2 VsockResponseHeader.state ∷
    u8 3 VsockResponseHeader.shutdown ∷
    u32 4 VsockResponseHeader.source_context ∷
    u32 8 VsockResponseHeader.source_port ∷
    u32 12 VsockResponseHeader.destination_context ∷
    u32 16 VsockResponseHeader.destination_port ∷
    u32 20 VsockResponseHeader.inode ∷
    u64 24 VsockResponseHeader.cookie ∷ []) vsock_header_of (λ value. ⊤)
