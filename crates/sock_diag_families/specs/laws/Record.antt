-- The layouts of the requests and of the headers are sound (`MeetsLayoutConditions`).
use Rattle.std.proofs.Common.{◌<◌, ℕ, ◌%◌, IsTrue, lt-ltb, refl, arith}
use Rattle.netlink_core.specs.Layout.{tag_fields}
use Rattle.netlink_core.specs.laws.LayoutObligations.{MeetsLayoutConditions, fields_are_consecutive}
use Rattle.netlink_core.proofs.LayoutLaws.{plain_sound}
use Rattle.sock_diag_families.specs.declared.request.TheConstants.{SHOW_REQUEST_LEN}
use Rattle.sock_diag_families.specs.NetlinkResponseHeader.{netlink_header}
use Rattle.sock_diag_families.specs.PacketResponseHeader.{packet_header}
use Rattle.sock_diag_families.specs.ShowRequest.{show_request}
use Rattle.sock_diag_families.specs.VsockRequest.{vsock_request}
use Rattle.sock_diag_families.specs.VsockResponseHeader.{vsock_header}
use Rattle.sock_diag_families.specs.XdpResponseHeader.{xdp_header}

show_request_rows_are_consecutive : (family : ℕ)
    → IsTrue (fields_are_consecutive 0 (tag_fields (show_request family) tt) SHOW_REQUEST_LEN)
show_request_rows_are_consecutive family =
    let byte : family % 256 < 256 = omega arith in
    rw (lt-ltb (family % 256) 256 byte) refl

pub show_request_sound : (family : ℕ) → MeetsLayoutConditions (show_request family)
show_request_sound family =
    plain_sound (show_request_rows_are_consecutive family) (λ _. refl) (λ _. refl) (λ _. tt)
    (λ _ _. refl)

pub vsock_request_sound : MeetsLayoutConditions vsock_request
vsock_request_sound = plain_sound refl (λ _. refl) (λ _. refl) (λ _. tt) (λ _ _. refl)

pub netlink_header_sound : MeetsLayoutConditions netlink_header
netlink_header_sound = plain_sound refl (λ _. refl) (λ _. refl) (λ _. tt) (λ _ _. refl)

pub packet_header_sound : MeetsLayoutConditions packet_header
packet_header_sound = plain_sound refl (λ _. refl) (λ _. refl) (λ _. tt) (λ _ _. refl)

pub vsock_header_sound : MeetsLayoutConditions vsock_header
vsock_header_sound = plain_sound refl (λ _. refl) (λ _. refl) (λ _. tt) (λ _ _. refl)

pub xdp_header_sound : MeetsLayoutConditions xdp_header
xdp_header_sound = plain_sound refl (λ _. refl) (λ _. refl) (λ _. tt) (λ _ _. refl)
