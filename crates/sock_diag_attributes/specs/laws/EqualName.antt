-- `==` of names of UNIX sockets is true if and only if their models are equal.
use Rattle.std.proofs.Common.{arith, ◌≡◌, ◌↔◌, ℕ, List, Bool, false, eqb, IsTrue, ap}
use mir.Syntax.{given}
use denote.RattleType.{RattleType}
use lib.Pointwise.{pointwise, bytes_decides}
use Rattle.std.specs.declared.cmp.PartialEq.{Ghosts}
use Rattle.netlink_core.specs.laws.Equality.{false_decides}
use Rattle.sock_diag_attributes.specs.NameModel.{socket_name_model}
use Rattle.sock_diag_attributes.specs.declared.unix.name.SocketName.{SocketName}
use Rattle.sock_diag_attributes.specs.declared.unix.name.SocketName.TheVariants.{Pathname, Abstract}
use Rattle.sock_diag_attributes.specs.contracts.unix.name.SocketNamePartialEq.TheImpl.{ghosts}

abbrev pub name_test : SocketName (List ℕ) → SocketName (List ℕ) → Bool
name_test (Pathname x) (Pathname y) = pointwise eqb x y
name_test (Abstract x) (Abstract y) = pointwise eqb x y
name_test n m = false

pub name_test_decides : (n m : SocketName (List ℕ)) → IsTrue (name_test n m) ↔ (n ≡ m)
name_test_decides (Pathname x) (Pathname y) =
    (λ h. ap Pathname ((bytes_decides x y).0 h), λ e. (bytes_decides x y).1 cc)
name_test_decides (Abstract x) (Abstract y) =
    (λ h. ap Abstract ((bytes_decides x y).0 h), λ e. (bytes_decides x y).1 cc)
name_test_decides n m = false_decides (λ e. cc)

-- over the type that holds the bytes, whose `==` compares the bytes
module _ (B : RattleType) (b : Ghosts B.Denot) (held : B.Denot → List ℕ)
    (same : (x y : B.Denot) → b.eq x y ≡ pointwise eqb (held x) (held y)) where
  pub same_names : (v w : SocketName B.Denot)
      → (ghosts B b (given 0)).eq v w
      ≡ name_test (socket_name_model held v) (socket_name_model held w)
  same_names v w =
      grind (arith, same)

  pub names_equal : (v w : SocketName B.Denot)
      → IsTrue ((ghosts B b (given 0)).eq v w)
      ↔ (socket_name_model held v ≡ socket_name_model held w)
  names_equal v w = rw (same_names v w) (name_test_decides _ _)
