-- Tests of equality of decoded values, composed of tests for the values of each attribute type.
use Rattle.std.proofs.Common.{◌≡◌, ◌↔◌, ◌&&◌, inl, inr, ℕ, [], ◌∷◌, Bool, false, eqb, IsTrue, arith}
use lib.Pointwise.{pointwise, bytes_decides}
use Rattle.netlink_core.specs.Attribute.{Attribute}
use Rattle.netlink_core.specs.AttributeSet.{AttributeSet, AttributeValue}
use Rattle.netlink_core.specs.laws.Equality.{and_decides, numbers_equal, false_decides}

-- a test that decides whether two values are equal
abbrev pub Test : Type 0 → Type 0
Test A = (test : A → A → Bool) × ((x y : A) → IsTrue (test x y) ↔ (x ≡ y))

abbrev pub number_test : Test ℕ
number_test = (eqb, numbers_equal)

-- a test for the values of each attribute type
abbrev pub Tests : AttributeSet → Type 0
Tests [] = Unit {0}
Tests (spec ∷ others) = Test spec.value.Value × Tests others

-- the test of two attributes, and the test of two decoded values
abbrev pub attribute_test : Attribute → Attribute → Bool
attribute_test a b = eqb a.type_word b.type_word && pointwise eqb a.value b.value

abbrev pub value_test : (F : AttributeSet) → Tests F → AttributeValue F → AttributeValue F → Bool
value_test [] tests a b = attribute_test a b
value_test (spec ∷ others) tests (inl x) (inl y) = tests.0.0 x y
value_test (spec ∷ others) tests (inl x) (inr w) = false
value_test (spec ∷ others) tests (inr v) (inl y) = false
value_test (spec ∷ others) tests (inr v) (inr w) = value_test others tests.1 v w

pub attribute_test_decides : (a b : Attribute) → IsTrue (attribute_test a b) ↔ (a ≡ b)
attribute_test_decides a b =
    grind (
      arith,
      and_decides (numbers_equal a.type_word b.type_word)
          (bytes_decides a.value b.value),
      numbers_equal a.type_word b.type_word,
    )

pub value_test_decides : (F : AttributeSet) (tests : Tests F) (v w : AttributeValue F)
    → IsTrue (value_test F tests v w)
    ↔ (v ≡ w)
value_test_decides [] tests a b = attribute_test_decides a b
value_test_decides (spec ∷ others) tests (inl x) (inl y) =
    grind (arith, tests.0.1 x y)
value_test_decides (spec ∷ others) tests (inr v) (inr w) =
    grind (arith, value_test_decides others tests.1 v w)
value_test_decides (spec ∷ others) tests v w = false_decides (λ e. cc)
