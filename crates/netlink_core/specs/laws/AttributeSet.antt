-- Properties of a set of attribute types that follow from the codec laws of its types.
use Rattle.std.proofs.Common.{Ok, Err, ◌≡◌, ◌↔◌, inl, inr, [], ◌∷◌, refl, arith}
use Rattle.std.specs.Prelude.{◌≢◌}
use Rattle.std.proofs.lemmas.Nat.{and_mask}
use Rattle.std.proofs.lemmas.Bool.Decides.{nat_tests}
use Rattle.netlink_core.specs.declared.error.DecodeError.TheVariants.{Memory}
use Rattle.netlink_core.specs.Attribute.{Attribute, attribute_kind}
use Rattle.netlink_core.specs.laws.Prefix.{IsAttributeInRange}
use Rattle.netlink_core.specs.AttributeSet.{AttributeSpec, AttributeSet, AttributeValue}
use Rattle.netlink_core.specs.AttributeSet.{decode_attribute, encode_attribute}
use Rattle.netlink_core.specs.AttributeSet.{AreEquivalentAttributes, IsInRangeIn, IsNormalIn}
use Rattle.netlink_core.specs.laws.ReplyObligations.{AttributeSetLaws}

-- a value of the first type is decoded from an attribute of its kind, any other value from an
-- attribute of another kind
decoded_at_first_type : (spec : AttributeSpec) (others : AttributeSet) (a : Attribute)
    (x : spec.value.Value)
    → decode_attribute (spec ∷ others) a ≡ Ok (inl x)
    → (attribute_kind a ≡ spec.number) × (spec.value.parses tt a.value ≡ Ok x)
decoded_at_first_type spec others a x h =
    grind (arith, nat_tests)

decoded_at_later_type : (spec : AttributeSpec) (others : AttributeSet) (a : Attribute)
    (v : AttributeValue others) → decode_attribute (spec ∷ others) a ≡ Ok (inr v)
    → (attribute_kind a ≢ spec.number) × (decode_attribute others a ≡ Ok v)
decoded_at_later_type spec others a v h =
    grind (arith, nat_tests)

-- decoding an attribute never fails with `Memory`
pub decode_error_is_not_memory : (set : AttributeSet) → AttributeSetLaws set → (a : Attribute)
    → decode_attribute set a ≡ Err Memory → ⊥
decode_error_is_not_memory [] laws a h = cc
decode_error_is_not_memory (spec ∷ others) laws a h =
    grind (
      arith,
      nat_tests,
      laws.0.value.error_is_not_memory a.value tt,
      decode_error_is_not_memory others laws.1 a,
    )

-- a decoded value serializes with the kind that it was decoded from
encoding_keeps_kind : (set : AttributeSet) → AttributeSetLaws set
    → (a : Attribute) (v : AttributeValue set)
    → decode_attribute set a ≡ Ok v
    → attribute_kind (encode_attribute set v) ≡ attribute_kind a
encoding_keeps_kind [] laws a v h = cc
encoding_keeps_kind (spec ∷ others) laws a v h =
    grind (arith, nat_tests, laws.0.plain, encoding_keeps_kind others laws.1 a)

-- what an attribute decodes to is in range and in normal form
pub decoded_is_normal : (set : AttributeSet) → AttributeSetLaws set
    → (a : Attribute) (v : AttributeValue set)
    → IsAttributeInRange a → decode_attribute set a ≡ Ok v
    → IsInRangeIn set v × IsNormalIn set v
decoded_is_normal [] laws a v in_range h = grind arith
decoded_is_normal (spec ∷ others) laws a (inl x) in_range h =
    laws.0.value.parsed_is_normal a.value tt x in_range.1
    (decoded_at_first_type spec others a x h).1
decoded_is_normal (spec ∷ others) laws a (inr v) in_range h =
    grind (
      arith,
      decoded_at_later_type spec others a v h,
      decoded_is_normal others laws.1 a v in_range,
      encoding_keeps_kind others laws.1 a v,
    )

-- two attributes decode to the same value if and only if they are equivalent
pub decoded_equal_iff_equivalent : (set : AttributeSet) → AttributeSetLaws set
    → (a b : Attribute) (v w : AttributeValue set)
    → IsAttributeInRange a → IsAttributeInRange b → decode_attribute set a ≡ Ok v
    → decode_attribute set b ≡ Ok w
    → ((v ≡ w) ↔ AreEquivalentAttributes set a b)
decoded_equal_iff_equivalent [] laws a b v w s t h k = (λ e. cc, λ e. cc)
decoded_equal_iff_equivalent (spec ∷ others) laws a b (inl x) (inl y) s t h k =
    grind (arith, decoded_at_first_type spec others a x h, decoded_at_first_type spec others b y k)
decoded_equal_iff_equivalent (spec ∷ others) laws a b (inr v) (inr w) s t h k =
    grind (
      arith,
      decoded_at_later_type spec others a v h,
      decoded_at_later_type spec others b w k,
      decoded_equal_iff_equivalent others laws.1 a b v w s t,
    )
decoded_equal_iff_equivalent (spec ∷ others) laws a b v w s t h k =
    grind (arith, nat_tests)

-- a decoded value in range serializes as an attribute in range
pub encoded_in_range : (set : AttributeSet) → AttributeSetLaws set → (v : AttributeValue set)
    → IsInRangeIn set v
    → IsAttributeInRange (encode_attribute set v)
encoded_in_range [] laws a t = t
encoded_in_range (spec ∷ others) laws (inl x) t =
    grind (arith, and_mask spec.number 14)
encoded_in_range (spec ∷ others) laws (inr v) t = encoded_in_range others laws.1 v t

-- a decoded value in range and in normal form is decoded from the attribute that it serializes as
pub decoded_round_trips : (set : AttributeSet) → AttributeSetLaws set → (v : AttributeValue set)
    → IsInRangeIn set v → IsNormalIn set v
    → decode_attribute set (encode_attribute set v) ≡ Ok v
decoded_round_trips [] laws a t n = refl
decoded_round_trips (spec ∷ others) laws (inl x) t n =
    grind (arith, nat_tests, laws.0.plain, laws.0.value.round_trips tt x t n tt)
decoded_round_trips (spec ∷ others) laws (inr v) t n =
    grind (arith, nat_tests, decoded_round_trips others laws.1 v t n.1)
