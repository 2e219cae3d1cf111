-- The codec of one attribute by itself, given a set of attribute types.
use Rattle.std.specs.Prelude.{◌≡◌, Ok}
use Rattle.netlink_core.specs.Attribute.{Attribute, FitsLengthField, HasAttributePrefix}
use Rattle.netlink_core.specs.Attribute.{IsFirstAttributeError, attribute_bytes}
use Rattle.netlink_core.specs.AttributeSet.{AttributeSet, AttributeValue, decode_attribute}
use Rattle.netlink_core.specs.AttributeSet.{encode_attribute, IsInRangeIn, IsNormalIn}
use Rattle.netlink_core.specs.AttributeSet.{NeedsNoMemoryIn, AreEquivalentAttributes}
use Rattle.netlink_core.specs.Codec.{Codec}

-- `first_attribute_codec set`: the codec of the attribute at the start of the bytes, which is
-- decoded by the set. Its padding and the bytes after it are ignored. `b` and `c` are byte strings,
-- `v` is a decoded value, and `e` is an error; `p` is `tt`, since there is no parameter.
abbrev pub first_attribute_codec : AttributeSet → Codec (Unit {0})
first_attribute_codec set = record {
  Value = AttributeValue set;
  is_in_range = IsInRangeIn set;
  -- the bytes begin with an attribute, which decodes to the value
  parses = λ b p v. (a : Attribute) × HasAttributePrefix b a × (decode_attribute set a ≡ Ok v);
  -- the first error of its framing or its value
  rejects = λ b p e. IsFirstAttributeError (decode_attribute set) b e;
  needs_no_memory = NeedsNoMemoryIn set;
  -- the first attributes of both byte strings, `x` and `y`, are equivalent
  equivalent = λ p b c. (x y : Attribute) × HasAttributePrefix b x × HasAttributePrefix c y
      × AreEquivalentAttributes set x y;
  is_normal = λ p v. IsNormalIn set v;
  serialized = λ v. attribute_bytes (encode_attribute set v);
  -- the value of the attribute has at most 65,531 bytes
  is_writable = λ v. FitsLengthField (encode_attribute set v);
}
