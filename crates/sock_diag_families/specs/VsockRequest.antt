-- The request for vsock sockets, 24 bytes.
use Rattle.std.specs.Prelude.{⊤, ℕ, List, [], ◌∷◌, replicate, slice_index}
use Rattle.netlink_core.specs.Layout.{Layout, plain}
use Rattle.netlink_core.specs.Rows.{skip, u32, u64}
use Rattle.netlink_core.specs.declared.error.RecordName.TheVariants as name
use Rattle.sock_diag_families.specs.declared.vsock.request.VsockRequest.{VsockRequest}
use Rattle.sock_diag_families.specs.declared.vsock.TheConstants.{AF_VSOCK}

-- `vsock_request_of values`: the request with these numbers in the fields that are not ignored, in
-- the order of the rows of `vsock_request`
abbrev pub vsock_request_of : List ℕ → VsockRequest
vsock_request_of values = record { states = slice_index values 0; cookie = slice_index values 1 }

-- `struct vsock_diag_req` (linux/vm_sockets_diag.h), by offsets:
--   0   `sdiag_family`, `sdiag_protocol` and `pad` (two bytes): ignored, and serialized as
--       AF_VSOCK, 0, 0, 0
--   4   `vdiag_states`
--   8   `vdiag_ino` and `vdiag_show`, eight bytes: ignored, and serialized as 0
--   16  `vdiag_cookie`
abbrev pub vsock_request : Layout (Unit {0}) (Unit {0}) VsockRequest
vsock_request = plain (name.FamilyRequest AF_VSOCK) 24 (
    skip 0 (AF_VSOCK ∷ 0 ∷ 0 ∷ 0 ∷ []) ∷
    u32 4 VsockRequest.states ∷
    skip 8 (replicate 8 0) ∷
    u64 16 VsockRequest.cookie ∷ []) vsock_request_of (λ value. ⊤)
