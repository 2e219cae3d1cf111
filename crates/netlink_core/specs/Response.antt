-- Replies: a header, followed by attributes of one set.
use Rattle.std.specs.Prelude.{◌≡◌, ℕ, ◌≤◌, ◌⊎◌, List, [], ◌++◌, length, drop, map, Ok, Err}
use Rattle.std.specs.List.{AllByRecursion, AllZip, flat_map}
use Rattle.netlink_core.specs.Attribute.{Attribute, FitsLengthField, SplitsIntoAttributes, DecodeTo}
use Rattle.netlink_core.specs.Attribute.{HasAttributeError, attribute_bytes}
use Rattle.netlink_core.specs.ValueCodec.{ValueCodec}
use Rattle.netlink_core.specs.AttributeSet.{AttributeSet, AttributeValue, decode_attribute}
use Rattle.netlink_core.specs.AttributeSet.{encode_attribute, IsInRangeIn, IsNormalIn}
use Rattle.netlink_core.specs.AttributeSet.{NeedsNoMemoryIn, AreEquivalentAttributes}
use Rattle.netlink_core.specs.Codec.{Codec}

-- how replies of one kind are parsed and serialized
pub record ResponseSpec : Type 1 where
  -- the codec of its header
  pub header : ValueCodec (Unit {0})
  -- the number of the header's bytes, after which the attributes start
  pub size : ℕ
  -- the set of the attribute types that may follow
  pub attribute_set : AttributeSet

-- a reply: a header, and a list of attributes
pub record ResponseValue (Header Nla : Type 0) : Type 0 where
  pub header : Header
  pub nlas : List Nla

-- `ReplyValue spec`: the value of a reply: the value of its header, and a decoded value for each
-- attribute
abbrev pub ReplyValue : ResponseSpec → Type 0
ReplyValue spec = ResponseValue spec.header.Value (AttributeValue spec.attribute_set)

-- `response_bytes spec reply`: the bytes that the reply serializes to: its header, and its
-- attributes with their padding
abbrev pub response_bytes : (spec : ResponseSpec) → ReplyValue spec → List ℕ
response_bytes spec reply = spec.header.bytes reply.header
    ++ flat_map attribute_bytes (map (encode_attribute spec.attribute_set) reply.nlas)

-- `response_codec spec`: the codec of these replies. `v` is a reply, `b` and `c` are byte strings,
-- and `e` is an error; `p` is `tt`, since there is no parameter. The attributes are in the bytes
-- from offset `size` on (`drop spec.size`).
abbrev pub response_codec : ResponseSpec → Codec (Unit {0})
response_codec spec = record {
  Value = ReplyValue spec;
  -- the header and each attribute are in range
  is_in_range = λ v. spec.header.is_in_range v.header
      × AllByRecursion (IsInRangeIn spec.attribute_set) v.nlas;
  -- the header's value, and one decoded value for each attribute after it
  parses = λ b p v. (spec.header.parses p b ≡ Ok v.header)
      × DecodeTo (decode_attribute spec.attribute_set) (drop spec.size b) v.nlas;
  -- the header's error, or after an accepted header the first error of the attributes
  rejects = λ b p e. (spec.header.parses p b ≡ Err e)
      ⊎ ((h : spec.header.Value) × (spec.header.parses p b ≡ Ok h)
      × HasAttributeError (decode_attribute spec.attribute_set) (drop spec.size b) e);
  -- at most eight attributes, none of which needs memory
  needs_no_memory = λ v. (length v.nlas ≤ 8)
      × AllByRecursion (NeedsNoMemoryIn spec.attribute_set) v.nlas;
  -- the headers are equivalent; both have the same number of attributes, and the attributes at each
  -- index are equivalent
  equivalent = λ p b c. spec.header.equivalent p b c × (left right : List Attribute)
      × SplitsIntoAttributes (drop spec.size b) left []
      × SplitsIntoAttributes (drop spec.size c) right []
      × AllZip (AreEquivalentAttributes spec.attribute_set) left right;
  -- the header and each attribute are in normal form
  is_normal = λ p v. spec.header.is_normal p v.header
      × AllByRecursion (IsNormalIn spec.attribute_set) v.nlas;
  serialized = response_bytes spec;
  -- each attribute's value has at most 65,531 bytes, and the whole has at most 4,294,967,295
  is_writable = λ v.
      AllByRecursion FitsLengthField (map (encode_attribute spec.attribute_set) v.nlas)
      × (length (response_bytes spec v) ≤ 4294967295);
}
