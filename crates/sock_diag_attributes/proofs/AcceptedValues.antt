-- The value of an accepted attribute is accepted by the codec of its kind.
use Rattle.std.proofs.Common.{◌≡◌, ◌∙◌, ℕ, List, [], ◌∷◌, ◌==◌, cond, IsOk, subst, sym, arith}
use Rattle.netlink_core.specs.Attribute.{Attribute, attribute_kind}
use Rattle.netlink_core.specs.AttributeSet.{AttributeSet, decode_attribute}

-- The bytes are accepted as the value of an attribute of kind `k`. All bytes are, if the set does
-- not have this kind.
abbrev pub IsAcceptedAs : AttributeSet → ℕ → List ℕ → Type 0
IsAcceptedAs [] k b = Unit {0}
IsAcceptedAs (spec ∷ others) k b =
    cond (k == spec.number) (IsOk (spec.value.parses tt b)) (IsAcceptedAs others k b)

value_is_accepted : (F : AttributeSet) (a : Attribute) → IsOk (decode_attribute F a)
    → IsAcceptedAs F (attribute_kind a) a.value
value_is_accepted [] a h = tt
value_is_accepted (spec ∷ others) a h = grind (arith, value_is_accepted others a)

-- The value of an accepted attribute of kind `k` is accepted as one of this kind.
pub accepted_value : (F : AttributeSet) (a : Attribute) (kind k : ℕ) (value : List ℕ)
    → IsOk (decode_attribute F a) → kind ≡ attribute_kind a → kind ≡ k → value ≡ a.value
    → IsAcceptedAs F k value
accepted_value F a kind k value accepted own is same =
    subst (IsAcceptedAs F k) (sym same)
    (subst (λ (n : ℕ). IsAcceptedAs F n a.value) (sym own ∙ is) (value_is_accepted F a accepted))
