use Rattle.std.proofs.Common.{◌∙◌, slice_index, sym, ap, refl, arith}
use Rattle.netlink_core.proofs.SignificantBits.{equivalent_by_condition, equal_first_bytes}
use Rattle.sock_diag_records.specs.InetRequest.{inet_request}
use Rattle.sock_diag_records.specs.laws.InetRequest.{inet_request_sound}
use Rattle.sock_diag_records.specs.IpVersions.{versions_of_family}
use Rattle.sock_diag_records.specs.SignificantBits.{IsInetFamily, inet_request_masks}
use Rattle.sock_diag_records.proofs.Masks.{is_inet_family, has_versions, masks_of_request}
use Rattle.sock_diag_records.proofs.laws.equivalent_inet_requests.Goals as goal

pub returns : goal.returns
unfolding inet_request
returns c = λ x y hx hy.
    let family = slice_index x 0 in
    let masks = inet_request_masks family in
    equivalent_by_condition inet_request inet_request_sound tt masks (IsInetFamily family) x y hx hy
    (λ lx ly versions here there.
    (is_inet_family family versions here, masks_of_request family versions here))
    (λ lx ly inet equal.
    let (versions, ok) = has_versions family inet in
    let same = equal_first_bytes masks x y hx hy (omega arith) (omega arith) refl equal in
    (versions, ok, ap versions_of_family (sym same) ∙ ok, masks_of_request family versions ok))
