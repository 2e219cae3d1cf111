-- The bytes of requests for netlink, packet, XDP and vsock sockets.
use Rattle.std.specs.Prelude.{ℕ, List, ◌++◌}
use Rattle.netlink_core.specs.Layout.{record_bytes}
use Rattle.netlink_core.specs.Header.{header_bytes}
use Rattle.sock_diag_families.specs.ShowRequest.{show_request}
use Rattle.sock_diag_families.specs.VsockRequest.{vsock_request}
use Rattle.sock_diag_families.specs.declared.request.ShowRequest as show
use Rattle.sock_diag_families.specs.declared.vsock.request.VsockRequest as vsock
use Rattle.sock_diag_records.specs.declared.constants.TheConstants.{SOCK_DIAG_BY_FAMILY}
use Rattle.sockdiag_c.specs.Requests.{request_header_of}
use Rattle.sockdiag_c.specs.declared.family_requests.ShowRequest.{ShowRequest}
use Rattle.sockdiag_c.specs.declared.family_requests.VsockRequest.{VsockRequest}

-- `show_request_from_c family r`: the record of the request `r` (`struct sockdiag_show_request`)
-- for the family AF_NETLINK, AF_PACKET or AF_XDP. The records `struct netlink_diag_req`,
-- `packet_diag_req` and `xdp_diag_req` have one layout. Each field is the field with the same name.
abbrev pub show_request_from_c : (family : ℕ) → ShowRequest → show.ShowRequest family
show_request_from_c family r =
    record { protocol = r.protocol; inode = r.inode; show = r.show; cookie = r.cookie }

-- `vsock_request_from_c r`: `struct vsock_diag_req` from the request `r`
-- (`struct sockdiag_vsock_request`): each field is the field with the same name
abbrev pub vsock_request_from_c : VsockRequest → vsock.VsockRequest
vsock_request_from_c r = record { states = r.states; cookie = r.cookie }

-- `show_message family r`: the netlink message of the request `r` for the family: 36 bytes. It is a
-- header of 16 bytes (`header_bytes`), then the record of 20 bytes (`record_bytes`).
abbrev pub show_message : ℕ → ShowRequest → List ℕ
show_message family r =
    header_bytes (request_header_of 36 SOCK_DIAG_BY_FAMILY r.header)
    ++ record_bytes (show_request family) (show_request_from_c family r)

-- `vsock_message r`: the netlink message of the request `r` for vsock sockets: 40 bytes. It is a
-- header of 16 bytes, then the record of 24 bytes.
abbrev pub vsock_message : VsockRequest → List ℕ
vsock_message r =
    header_bytes (request_header_of 40 SOCK_DIAG_BY_FAMILY r.header)
    ++ record_bytes vsock_request (vsock_request_from_c r)
