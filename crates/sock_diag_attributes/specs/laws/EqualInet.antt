-- `==` of attributes is true if and only if their models are equal.
use Rattle.std.proofs.Common.{◌≡◌, ◌↔◌, ℕ, List, Bool, eqb, IsTrue, refl, rules}
use mathlib.Core.Bool.{beq}
use mir.Syntax.{given}
use denote.RattleType.{RattleType}
use lib.Pointwise.{pointwise, bytes_decides}
use Rattle.std.specs.declared.cmp.PartialEq.{Ghosts}
use Rattle.netlink_core.specs.Attribute.{Attribute}
use Rattle.netlink_core.proofs.AttributeTypeLaws.{◌⊕◌}
use Rattle.netlink_core.proofs.ValueTests.{Tests, attribute_test, number_test, value_test}
use Rattle.netlink_core.proofs.ValueTests.{value_test_decides}
use Rattle.sock_diag_values.specs.contracts.inet.legacy_mem_info.LegacyMemInfoExact.TheImpl.Laws.{
  exact-law as exact_legacy,
}
use Rattle.sock_diag_values.specs.contracts.inet.legacy_mem_info.LegacyMemInfoPartialEq.TheImpl.{
  ghosts as legacy,
}
use Rattle.sock_diag_values.specs.contracts.inet.tcp_info.TcpInfoExact.TheImpl.Laws.{
  exact-law as exact_tcp,
}
use Rattle.sock_diag_values.specs.contracts.inet.tcp_info.TcpInfoPartialEq.TheImpl.{ghosts as tcp}
use Rattle.sock_diag_values.specs.contracts.inet.mem_info.MemInfoExact.TheImpl.Laws.{
  exact-law as exact_memory,
}
use Rattle.sock_diag_values.specs.contracts.inet.mem_info.MemInfoPartialEq.TheImpl.{
  ghosts as memory,
}
use Rattle.sock_diag_attributes.specs.InetAttributes.{inet_attribute_set}
use Rattle.sock_diag_attributes.specs.InetModel.{inet_nla_value}
use Rattle.sock_diag_attributes.specs.declared.inet.nlas.InetNla.{InetNla}
use Rattle.sock_diag_attributes.specs.declared.inet.nlas.InetNla.TheVariants as nla
use Rattle.sock_diag_attributes.specs.contracts.inet.nlas.InetNlaPartialEq.TheImpl.{ghosts}

pub bool_test_decides : (a b : Bool) → IsTrue (beq a b) ↔ (a ≡ b)
bool_test_decides a b = search rules

-- a test for the values of each type
abbrev pub inet_tests : Tests inet_attribute_set
inet_tests =
    (legacy.eq, exact_legacy.0) ⊕ (tcp.eq, exact_tcp.0) ⊕ (pointwise eqb, bytes_decides)
    ⊕ number_test ⊕ number_test ⊕ (memory.eq, exact_memory.0) ⊕ number_test ⊕ number_test
    ⊕ (beq, bool_test_decides) ⊕ number_test ⊕ number_test ⊕ tt

-- over the types of texts and raw attributes, whose `==` compares the bytes and attributes that
-- `text` and `other` return
module _ (T O : RattleType) (t : Ghosts T.Denot) (o : Ghosts O.Denot) (text : T.Denot → List ℕ)
    (other : O.Denot → Attribute)
    (texts : (a b : T.Denot) → t.eq a b ≡ pointwise eqb (text a) (text b)) (others : (a b : O.Denot)
    → o.eq a b ≡ attribute_test (other a) (other b)) where
  -- `==` of two attributes is the test of their models
  pub inet_test_is_model_test : (v w : InetNla T.Denot O.Denot)
      → (ghosts T O t (given 0) o (given 0)).eq v w
      ≡ value_test inet_attribute_set inet_tests (inet_nla_value text other v)
      (inet_nla_value text other w)
  inet_test_is_model_test (nla.LegacyMemInfo a) (nla.LegacyMemInfo b) = refl
  inet_test_is_model_test (nla.TcpInfo a) (nla.TcpInfo b) = refl
  inet_test_is_model_test (nla.Congestion a) (nla.Congestion b) = texts a b
  inet_test_is_model_test (nla.Tos a) (nla.Tos b) = refl
  inet_test_is_model_test (nla.Tc a) (nla.Tc b) = refl
  inet_test_is_model_test (nla.MemInfo a) (nla.MemInfo b) = refl
  inet_test_is_model_test (nla.Shutdown a) (nla.Shutdown b) = refl
  inet_test_is_model_test (nla.Protocol a) (nla.Protocol b) = refl
  inet_test_is_model_test (nla.SkV6Only a) (nla.SkV6Only b) = refl
  inet_test_is_model_test (nla.Mark a) (nla.Mark b) = refl
  inet_test_is_model_test (nla.ClassId a) (nla.ClassId b) = refl
  inet_test_is_model_test (nla.Other a) (nla.Other b) = others a b
  inet_test_is_model_test v w = refl

  pub inet_nlas_equal : (v w : InetNla T.Denot O.Denot)
      → IsTrue ((ghosts T O t (given 0) o (given 0)).eq v w)
      ↔ (inet_nla_value text other v ≡ inet_nla_value text other w)
  inet_nlas_equal v w = rw (inet_test_is_model_test v w)
      (value_test_decides inet_attribute_set inet_tests _ _)
