-- The lengths of serialized replies.
use Rattle.std.proofs.Common.{◌≡◌, ◌%◌, List, [], ◌∷◌, length, map, replicate, refl, arith}
use Rattle.std.specs.List.{flat_map}
use Rattle.std.proofs.lemmas.List.{length-append, length-replicate}
use Rattle.netlink_core.specs.Attribute.{Attribute, padding_length, header_and_value}
use Rattle.netlink_core.specs.Attribute.{attribute_bytes}
use Rattle.netlink_core.specs.AttributeSet.{encode_attribute}
use Rattle.netlink_core.specs.Response.{ResponseSpec, ReplyValue, response_bytes}
use Rattle.netlink_core.specs.laws.ReplyObligations.{ResponseLaws}

-- the length of an attribute with its padding is a multiple of four
written_multiple : (a : Attribute) → length (attribute_bytes a) % 4 ≡ 0
written_multiple a =
    grind (
      arith,
      length-append (header_and_value a) (replicate (padding_length (length a.value)) 0),
      length-replicate,
    )

-- the length of consecutive attributes with their padding is a multiple of four
all_multiple : (xs : List Attribute) → length (flat_map attribute_bytes xs) % 4 ≡ 0
all_multiple [] = refl
all_multiple (x ∷ xs) =
    grind (
      arith,
      length-append (attribute_bytes x) (flat_map attribute_bytes xs),
      written_multiple x,
      all_multiple xs,
    )

-- the length of a reply is a multiple of four, if the length of its header is one
pub reply_multiple : (R : ResponseSpec) → ResponseLaws R → R.size % 4 ≡ 0 → (v : ReplyValue R)
    → R.header.is_in_range v.header → length (response_bytes R v) % 4 ≡ 0
reply_multiple R laws four v in_range =
    let nlas : List Attribute = map (encode_attribute R.attribute_set) v.nlas in
    omega (
      arith,
      length-append (R.header.bytes v.header) (flat_map attribute_bytes nlas),
      laws.as_prefix.bytes_long v.header in_range,
      all_multiple nlas,
      four,
    )
