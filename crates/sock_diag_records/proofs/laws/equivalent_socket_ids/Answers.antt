use Rattle.netlink_core.proofs.SignificantBits.{equivalent_by_condition}
use Rattle.sock_diag_records.specs.SignificantBits.{IsInetFamily, socket_id_masks}
use Rattle.sock_diag_records.specs.SocketId.{socket_id}
use Rattle.sock_diag_records.specs.laws.SocketId.{socket_id_sound}
use Rattle.sock_diag_records.proofs.Masks.{is_inet_family, has_versions, masks_of_socket_id}
use Rattle.sock_diag_records.proofs.laws.equivalent_socket_ids.Goals as goal

pub returns : goal.returns
unfolding socket_id
returns c = λ family x y hx hy.
    let masks = socket_id_masks family in
    equivalent_by_condition socket_id socket_id_sound family masks (IsInetFamily family) x y hx hy
    (λ lx ly versions here there.
    (is_inet_family family versions here, masks_of_socket_id family versions here))
    (λ lx ly inet equal.
    let (versions, ok) = has_versions family inet in
    (versions, ok, ok, masks_of_socket_id family versions ok))
