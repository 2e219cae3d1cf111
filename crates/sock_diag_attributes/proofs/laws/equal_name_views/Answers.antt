use Rattle.std.proofs.Common.{ℕ, List, Bor, refl}
use Rattle.sock_diag_attributes.specs.laws.EqualName.{names_equal}
use Rattle.sock_diag_attributes.specs.laws.AttributeParts.{text_view_type}
use Rattle.sock_diag_attributes.proofs.laws.equal_name_views.Goals as goal

pub returns : goal.returns
returns c =
    rw c.eq.ensures (names_equal text_view_type _ (λ (b : Bor (List ℕ)). b.now) (λ _ _. refl)
    c.args.left.now c.args.right.now)
