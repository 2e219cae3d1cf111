use Rattle.std.proofs.Common.{ℕ, List, Bor, refl}
use Rattle.netlink_core.specs.Walk.{buffered_attribute}
use Rattle.sock_diag_attributes.specs.laws.EqualUnix.{unix_nlas_equal, list_views_model}
use Rattle.sock_diag_attributes.specs.laws.EqualName.{same_names}
use Rattle.sock_diag_attributes.specs.laws.AttributeParts.{buffer_type, name_view_type}
use Rattle.sock_diag_attributes.specs.laws.AttributeParts.{numbers_type}
use Rattle.sock_diag_attributes.specs.laws.AttributeParts.{text_view_type}
use Rattle.sock_diag_attributes.specs.NameModel.{socket_name_model}
use Rattle.sock_diag_attributes.specs.NumbersModel.{numbers_view_model}
use Rattle.sock_diag_attributes.proofs.laws.equal_unix_views.Goals as goal

pub returns : goal.returns
returns c =
    let borrowed = λ (b : Bor (List ℕ)). b.now in
    rw c.eq.ensures (unix_nlas_equal name_view_type numbers_type buffer_type _ _ _
    (socket_name_model borrowed)
    numbers_view_model buffered_attribute (same_names text_view_type _ borrowed (λ _ _. refl))
    list_views_model
    (λ _ _. refl) c.args.left.now c.args.right.now)
