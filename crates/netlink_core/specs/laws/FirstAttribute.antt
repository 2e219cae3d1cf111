-- The codec of the first attribute keeps the codec laws, for every set of attribute types.
use Rattle.std.proofs.Common.{arith, Ok, ◌≡◌, inl, inr, [], length, replicate, refl, sym, ap}
use Rattle.netlink_core.specs.Attribute.{Attribute, FitsHeaderFields, padding_length}
use Rattle.netlink_core.specs.Attribute.{attribute_bytes}
use Rattle.netlink_core.specs.AttributeSet.{AttributeSet, AttributeValue, decode_attribute}
use Rattle.netlink_core.specs.AttributeSet.{encode_attribute}
use Rattle.netlink_core.specs.laws.ReplyObligations.{AttributeSetLaws}
use Rattle.netlink_core.specs.FirstAttribute.{first_attribute_codec}
use Rattle.netlink_core.specs.Codec.{KeepsCodecLaws}
use Rattle.netlink_core.specs.laws.Prefix.{value_or_error, prefix_or_framing_error}
use Rattle.netlink_core.specs.laws.Prefix.{prefix_or_error_apart, attribute_prefix_in_range}
use Rattle.netlink_core.specs.laws.Prefix.{one_attribute, one_first_attribute_error}
use Rattle.netlink_core.specs.laws.Prefix.{attribute_bytes_in_range}
use Rattle.netlink_core.specs.laws.AttributeSet.{decode_error_is_not_memory, decoded_is_normal}
use Rattle.netlink_core.specs.laws.AttributeSet.{decoded_equal_iff_equivalent, encoded_in_range}
use Rattle.netlink_core.specs.laws.AttributeSet.{decoded_round_trips}

module _ (set : AttributeSet) (a : Attribute) (fits : FitsHeaderFields a) where
  -- what an attribute decodes to is parsed from the bytes that the attribute serializes to
  pub decoded_is_parsed : (v : AttributeValue set) → decode_attribute set a ≡ Ok v
      → (first_attribute_codec set).parses (attribute_bytes a) tt v
  decoded_is_parsed v s = (a, (replicate (padding_length (length a.value)) 0, refl, fits), s)

-- a raw copy of an attribute is what is parsed from the bytes that the attribute serializes to
pub raw_copy_is_parsed : (a v : Attribute) → FitsHeaderFields a → v ≡ a
    → (first_attribute_codec []).parses (attribute_bytes a) tt v
raw_copy_is_parsed a v fits e = decoded_is_parsed [] a fits v (ap Ok (sym e))

module _ (set : AttributeSet) (laws : AttributeSetLaws set) where
  pub first_attribute_codec_laws : KeepsCodecLaws (first_attribute_codec set)
  first_attribute_codec_laws = record {
    is_total = λ b p in_range. elim (prefix_or_framing_error b in_range) [
      | inr framing ↦ inr (framing.0, inl framing.1)
      | inl head ↦ elim (value_or_error (decode_attribute set head.0)) [
        | inl said ↦ inl (said.0, (head.0, head.1, said.1))
        | inr refused ↦ inr (refused.0, inr (head.0, head.1, refused.1))
      ]
    ];
    is_exclusive = λ b p v e h. elim [
      | inl framing ↦ prefix_or_error_apart b h.0 e h.1 framing
      | inr refused ↦ let same = one_attribute b refused.0 h.0 refused.1 h.1 in cc
    ];
    error_is_unique = λ b p. one_first_attribute_error (decode_attribute set) b;
    error_is_not_memory = λ b p h. grind (arith, decode_error_is_not_memory set laws);
    equal_iff_equivalent = λ b c p v w b-in_range c-in_range h k.
        let same = decoded_equal_iff_equivalent set laws h.0 k.0 v w
        (attribute_prefix_in_range b h.0 b-in_range h.1)
        (attribute_prefix_in_range c k.0 c-in_range k.1) h.2 k.2 in (
          λ e. (h.0, k.0, h.1, k.1, same.0 e),
          λ (x, y, left, right, equivalent). same.1 (rw (
            one_attribute b h.0 x h.1 left,
            one_attribute c k.0 y k.1 right,
          ) equivalent),
        );
    parsed_is_normal = λ b p v in_range h. decoded_is_normal set laws h.0 v
        (attribute_prefix_in_range b h.0 in_range h.1) h.2;
    serialized_in_range = λ v in_range.
        attribute_bytes_in_range (encode_attribute set v) (encoded_in_range set laws v in_range);
    round_trips = λ p v in_range normal fits. decoded_is_parsed set (encode_attribute set v)
        ((encoded_in_range set laws v in_range).0, fits) v
        (decoded_round_trips set laws v in_range normal);
  }
