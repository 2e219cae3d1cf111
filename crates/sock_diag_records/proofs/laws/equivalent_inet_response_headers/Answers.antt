use Rattle.std.proofs.Common.{◌∙◌, ℕ, slice_index, sym, ap, refl, arith}
use Rattle.netlink_core.proofs.SignificantBits.{equivalent_by_condition, equal_first_bytes}
use Rattle.sock_diag_records.specs.InetResponse.{inet_response_header}
use Rattle.sock_diag_records.specs.laws.InetResponse.{inet_response_header_sound}
use Rattle.sock_diag_records.specs.IpVersions.{IpVersions, versions_of_family}
use Rattle.sock_diag_records.specs.SignificantBits.{IsInetFamily, HaveSameTimerClass}
use Rattle.sock_diag_records.specs.SignificantBits.{inet_response_header_masks}
use Rattle.sock_diag_records.specs.Timer.{timer_class}
use Rattle.sock_diag_records.proofs.Masks.{is_inet_family, has_versions, masks_of_header}
use Rattle.sock_diag_records.proofs.Masks.{tag_parts, tag_of_parts, same_timer, same_class}
use Rattle.sock_diag_records.proofs.laws.equivalent_inet_response_headers.Goals as goal

pub returns : goal.returns
unfolding inet_response_header
returns c = λ x y hx hy.
    let family = slice_index x 0 in
    let other_family = slice_index y 0 in
    let timer = slice_index x 2 in
    let other_timer = slice_index y 2 in
    let class = timer_class timer in
    let other_class = timer_class other_timer in
    let masks = inet_response_header_masks family timer in
    equivalent_by_condition inet_response_header inet_response_header_sound tt masks
    (IsInetFamily family × HaveSameTimerClass timer other_timer) x y hx hy
    (λ lx ly tag here there.
    let (ok, is) = tag_parts class (versions_of_family family) tag here in
    let other = tag_parts other_class (versions_of_family other_family) tag there in (
      (is_inet_family family tag.0 ok, same_timer timer other_timer (is ∙ sym other.1)),
      masks_of_header family timer tag ok is,
    ))
    (λ lx ly (inet, same_timers) equal.
    let (versions, ok) = has_versions family inet in
    let tag : IpVersions × ℕ = (versions, class) in
    let same = equal_first_bytes masks x y hx hy (omega arith) (omega arith) refl equal in (
      tag,
      tag_of_parts class (versions_of_family family) tag ok refl,
      tag_of_parts other_class (versions_of_family other_family) tag
          (ap versions_of_family (sym same) ∙ ok) (sym (same_class timer other_timer same_timers)),
      masks_of_header family timer tag ok refl,
    ))
