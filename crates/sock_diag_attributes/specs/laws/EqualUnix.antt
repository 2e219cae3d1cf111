-- `==` of attributes is true if and only if their models are equal.
use Rattle.std.proofs.Common.{arith, ◌≡◌, ◌↔◌, ℕ, List, ◌&&◌, Bool, eqb, IsTrue, ap, rules}
use mir.Syntax.{given}
use denote.RattleType.{RattleType}
use lib.Pointwise.{pointwise, bytes_decides}
use Rattle.std.specs.declared.cmp.PartialEq.{Ghosts}
use Rattle.netlink_core.specs.Attribute.{Attribute}
use Rattle.netlink_core.specs.laws.Equality.{same_test}
use Rattle.netlink_core.proofs.AttributeTypeLaws.{◌⊕◌}
use Rattle.netlink_core.proofs.ValueTests.{Tests, attribute_test, number_test, value_test}
use Rattle.netlink_core.proofs.ValueTests.{value_test_decides}
use Rattle.sock_diag_values.specs.contracts.unix.vfs.VfsExact.TheImpl.Laws.{exact-law as exact_vfs}
use Rattle.sock_diag_values.specs.contracts.unix.vfs.VfsPartialEq.TheImpl.{ghosts as vfs}
use Rattle.sock_diag_values.specs.contracts.unix.mem_info.MemInfoExact.TheImpl.Laws.{
  exact-law as exact_memory,
}
use Rattle.sock_diag_values.specs.contracts.unix.mem_info.MemInfoPartialEq.TheImpl.{
  ghosts as memory,
}
use Rattle.sock_diag_attributes.specs.laws.EqualName.{name_test, name_test_decides}
use Rattle.sock_diag_attributes.specs.NumbersModel.{numbers_view_model}
use Rattle.sock_diag_attributes.specs.laws.Number.{numbers_in_same}
use Rattle.sock_diag_attributes.specs.Numbers.{numbers_in}
use Rattle.sock_diag_attributes.specs.UnixAttributes.{unix_attribute_set}
use Rattle.sock_diag_attributes.specs.UnixModel.{unix_nla_value}
use Rattle.sock_diag_attributes.specs.declared.unix.name.SocketName.{SocketName}
use Rattle.sock_diag_attributes.specs.declared.numbers.NumbersView.{NumbersView}
use Rattle.sock_diag_attributes.specs.contracts.numbers.NumbersViewPartialEq.TheImpl.{
  ghosts as number_views,
}
use Rattle.sock_diag_attributes.specs.declared.unix.nlas.UnixNla.{UnixNla}
use Rattle.sock_diag_attributes.specs.contracts.unix.nlas.UnixNlaPartialEq.TheImpl.{ghosts}

abbrev number_pair_test : ℕ × ℕ → ℕ × ℕ → Bool
number_pair_test a b = eqb a.0 b.0 && eqb a.1 b.1

pub number_pair_test_decides : (a b : ℕ × ℕ) → IsTrue (number_pair_test a b) ↔ (a ≡ b)
number_pair_test_decides a b = (λ h. search rules, λ e. search rules)

-- a test for the values of each type
abbrev pub unix_tests : Tests unix_attribute_set
unix_tests =
    (name_test, name_test_decides) ⊕ (vfs.eq, exact_vfs.0) ⊕ number_test
    ⊕ (pointwise eqb, bytes_decides)
    ⊕ (number_pair_test, number_pair_test_decides) ⊕ (memory.eq, exact_memory.0) ⊕ number_test ⊕ tt

pub number_views_equal : (v w : NumbersView) → IsTrue (number_views.eq v w)
    ↔ (numbers_view_model v ≡ numbers_view_model w)
number_views_equal v w =
    let bytes = bytes_decides v.bytes.now w.bytes.now in (
      λ h. ap numbers_in (bytes.0 h),
      λ e. bytes.1 (numbers_in_same _ _ v.in_range w.in_range v.whole w.whole e),
    )

pub list_views_model : (v w : NumbersView)
    → number_views.eq v w ≡ pointwise eqb (numbers_view_model v)
    (numbers_view_model w)
list_views_model v w = same_test _ _ (number_views_equal v w) (bytes_decides _ _)

-- over the types of names, lists and raw attributes, whose `==` compares what `name`, `list` and
-- `other` return
module _ (N L O : RattleType) (n : Ghosts N.Denot) (l : Ghosts L.Denot) (o : Ghosts O.Denot)
    (name : N.Denot → SocketName (List ℕ)) (list : L.Denot → List ℕ) (other : O.Denot → Attribute)
    (names : (a b : N.Denot) → n.eq a b ≡ name_test (name a) (name b)) (lists : (a b : L.Denot)
    → l.eq a b ≡ pointwise eqb (list a) (list b))
    (others : (a b : O.Denot) → o.eq a b ≡ attribute_test (other a) (other b)) where
  -- `==` of two attributes is the test of their models
  pub unix_test_is_model_test : (v w : UnixNla N.Denot L.Denot O.Denot)
      → (ghosts N L O n (given 0) l (given 0) o (given 0)).eq v w
      ≡ value_test unix_attribute_set unix_tests
      (unix_nla_value name list other v) (unix_nla_value name list other w)
  unix_test_is_model_test v w =
      grind arith

  pub unix_nlas_equal : (v w : UnixNla N.Denot L.Denot O.Denot)
      → IsTrue ((ghosts N L O n (given 0) l (given 0) o (given 0)).eq v w)
      ↔ (unix_nla_value name list other v ≡ unix_nla_value name list other w)
  unix_nlas_equal v w = rw (unix_test_is_model_test v w)
      (value_test_decides unix_attribute_set unix_tests _ _)
