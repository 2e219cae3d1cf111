use Rattle.std.proofs.Common.{◌≡◌, ◌↔◌, ℕ, Bool, Bor, IsTrue, List, Option, None, Some, ap, refl}
use Rattle.std.proofs.Common.{sym}
use Rattle.std.specs.Option.{option_eq, option_map}
use Rattle.sock_diag_attributes.specs.laws.EqualName.{names_equal}
use Rattle.sock_diag_attributes.specs.laws.AttributeParts.{text_view_type}
use Rattle.sock_diag_attributes.specs.NameModel.{socket_name_model}
use Rattle.sock_diag_attributes.specs.declared.unix.name.SocketName.{SocketName}
use Rattle.sock_diag_attributes.specs.declared.unix.name.SocketName.TheVariants.{Pathname}
use Rattle.sock_diag_examples.proofs.bound_sockets.is_bound_to.Goals as goal

abbrev Lent : Type 0
Lent = SocketName (Bor (List ℕ))

abbrev borrow_name : Lent → SocketName (List ℕ)
borrow_name name = socket_name_model (λ (b : Bor (List ℕ)). b.now) name

one_name : (x y : SocketName (List ℕ)) → Some x ≡ Some y → x ≡ y
one_name x y e = cc

-- the name, if any, equals the path by `==` if and only if it is this pathname
names_path : (test : Lent → Lent → Bool)
    → ((v w : Lent) → IsTrue (test v w) ↔ (borrow_name v ≡ borrow_name w))
    → (name : Option Lent) (path : Bor (List ℕ))
    → IsTrue (option_eq test name (Some (Pathname path)))
    ↔ (option_map borrow_name name ≡ Some (Pathname path.now))
names_path test equal None path = (λ wrong. absurd cc, λ wrong. absurd cc)
names_path test equal (Some name) path =
    let same = equal name (Pathname path) in
    (λ h. ap Some (same.0 h), λ e. same.1 (one_name (borrow_name name) (Pathname path.now) e))

pub returns-clause-value : goal.returns-clause-value
returns-clause-value c =
    let equal = names_equal text_view_type _ (λ (b : Bor (List ℕ)). b.now) (λ _ _. refl) in
    let is_path = names_path _ equal c.name.result c.args.path in
    (_, c.in_ok-view.ensures.value, rw (c.eq.ensures, sym c.name.ensures) is_path)
