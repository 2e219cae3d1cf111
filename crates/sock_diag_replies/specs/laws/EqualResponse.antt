-- Tests that decide whether two replies, or their models, are equal.
use Rattle.std.proofs.Common.{arith, ◌≡◌, ◌↔◌, ◌&&◌, Bool, true, IsTrue}
use Rattle.std.proofs.lemmas.List.{map-id}
use lib.Pointwise.{pointwise}
use Rattle.netlink_core.specs.laws.Equality.{and_decides, lists_equal}
use Rattle.netlink_core.proofs.ValueTests.{Tests, value_test, value_test_decides}
use Rattle.netlink_core.specs.AttributeSet.{AttributeSet, AttributeValue}
use Rattle.netlink_core.specs.Response.{ResponseValue}
use Rattle.sock_diag_replies.specs.declared.response.Reply.{Reply}
use Rattle.sock_diag_replies.specs.ResponseModel.{response_model}

-- a test of the headers and a test of the attributes decide together whether two replies are equal
header_and_attribute_tests_decide : {H V : Type 0} (same_header same_nlas : Bool)
    (v w : ResponseValue H V)
    → (IsTrue same_header ↔ (v.header ≡ w.header)) → (IsTrue same_nlas ↔ (v.nlas ≡ w.nlas))
    → IsTrue (same_header && same_nlas) ↔ (v ≡ w)
header_and_attribute_tests_decide {H} {V} same_header same_nlas v w headers nlas =
    grind (arith, and_decides headers nlas)

-- `==` of two owned replies decides whether their models are equal
pub responses_equal : {H A V W : Type 0} {same : H → H → Bool} {test : A → A
    → Bool} (header_model : H → V)
    (model : A → W) → ((h k : H) → IsTrue (same h k) ↔ (header_model h ≡ header_model k))
    → ((a b : A) → IsTrue (test a b) ↔ (model a ≡ model b)) → (v w : Reply H A)
    → IsTrue (same v.header w.header && pointwise test v.nlas.items w.nlas.items)
    ↔ (response_model header_model model v ≡ response_model header_model model w)
responses_equal header_model model headers attributes v w =
    grind (arith, header_and_attribute_tests_decide, lists_equal)

-- over a test of headers and tests of the values of an attribute set
module _ {H : Type 0} (same : H → H → Bool) (F : AttributeSet) (tests : Tests F) where
  -- the headers pass the test, and so do the attributes at each index
  abbrev pub response_test : ResponseValue H (AttributeValue F) → ResponseValue H (AttributeValue F)
      → Bool
  response_test v w = same v.header w.header && pointwise (value_test F tests) v.nlas w.nlas

  pub response_test_decides : ((h k : H) → IsTrue (same h k) ↔ (h ≡ k))
      → (v w : ResponseValue H (AttributeValue F))
      → IsTrue (response_test v w) ↔ (v ≡ w)
  response_test_decides headers v w =
      grind (
        arith,
        header_and_attribute_tests_decide,
        map-id v.nlas,
        map-id w.nlas,
        lists_equal,
        value_test,
        value_test_decides,
      )

-- if the test of the headers is true, the test of the attributes decides
pub attribute_test_decides_rest : {same_header same_nlas result : Bool} → same_header ≡ true
    → result ≡ same_nlas → result ≡ (same_header && same_nlas)
attribute_test_decides_rest {same_header} {same_nlas} {result} equal same = rw equal same
