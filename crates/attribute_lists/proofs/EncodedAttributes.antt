-- Serializing a list of attributes is serializing their decoded values, and these are in range if
-- the attributes are.
use Rattle.std.proofs.Common.{arith, ◌≡◌, List, [], ◌∷◌, map, refl}
use Rattle.std.specs.List.{AllByRecursion}
use Rattle.netlink_core.specs.Attribute.{Attribute}
use Rattle.netlink_core.specs.AttributeSet.{AttributeSet, AttributeValue, encode_attribute}
use Rattle.netlink_core.specs.AttributeSet.{IsInRangeIn}

pub encoded_attributes_of_views : {N : Type 0} (F : AttributeSet) (attribute : N
    → Attribute) (model : N
    → AttributeValue F)
    → ((n : N) → attribute n ≡ encode_attribute F (model n)) → (nlas : List N)
    → map attribute nlas ≡ map (encode_attribute F) (map model nlas)
encoded_attributes_of_views F attribute model each [] = refl
encoded_attributes_of_views F attribute model each (n ∷ nlas) =
    grind (arith, encoded_attributes_of_views F attribute model each nlas)

pub decoded_values_in_range : {N : Type 0} (F : AttributeSet) (in_range : N → Type 0) (model : N
    → AttributeValue F)
    → ((n : N) → in_range n → IsInRangeIn F (model n)) → (nlas : List N)
    → AllByRecursion in_range nlas → AllByRecursion (IsInRangeIn F) (map model nlas)
decoded_values_in_range F in_range model each [] all = tt
decoded_values_in_range F in_range model each (n ∷ nlas) all =
    (each n all.0, decoded_values_in_range F in_range model each nlas all.1)
