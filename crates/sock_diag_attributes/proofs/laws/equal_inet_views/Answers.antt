use Rattle.std.proofs.Common.{ℕ, List, Bor, refl}
use Rattle.netlink_core.specs.Walk.{buffered_attribute}
use Rattle.sock_diag_attributes.specs.laws.EqualInet.{inet_nlas_equal}
use Rattle.sock_diag_attributes.specs.laws.AttributeParts.{buffer_type, text_view_type}
use Rattle.sock_diag_attributes.proofs.laws.equal_inet_views.Goals as goal

pub returns : goal.returns
returns c =
    rw c.eq.ensures (inet_nlas_equal text_view_type buffer_type _ _
    (λ (t : Bor (List ℕ)). t.now) buffered_attribute
    (λ _ _. refl) (λ _ _. refl) c.args.left.now c.args.right.now)
