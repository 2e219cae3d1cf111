-- What has to be proved of the parts of a reply, so that its codec laws follow: of its header, of
-- an attribute type, of a set of attribute types, and of the reply.
use Rattle.std.specs.Prelude.{◌≡◌, ℕ, List, [], ◌∷◌, ◌++◌, length, bit_and, Ok}
use Rattle.netlink_core.specs.Codec.{KeepsCodecLaws, as_codec}
use Rattle.netlink_core.specs.ValueCodec.{ValueCodec}
use Rattle.netlink_core.specs.AttributeSet.{AttributeSpec, AttributeSet}
use Rattle.netlink_core.specs.Response.{ResponseSpec}

-- `IsPrefixCodec C size`: in addition to the codec laws, for a record that other bytes follow:
-- values in range have `size` bytes, and those in normal form round-trip also if bytes follow.
pub record IsPrefixCodec (C : ValueCodec (Unit {0})) (size : ℕ) : Type 0 where
  pub bytes_long : (v : C.Value) → C.is_in_range v → length (C.bytes v) ≡ size
  pub reads_as_prefix : (v : C.Value) (rest : List ℕ) → C.is_in_range v → C.is_normal tt v
      → C.parses tt (C.bytes v ++ rest) ≡ Ok v

-- for an attribute type: its kind has no flag bit, and the codec of its values keeps the codec laws
pub record AttributeSpecLaws (spec : AttributeSpec) : Type 0 where
  pub plain : bit_and spec.number 0x3fff ≡ spec.number
  pub value : KeepsCodecLaws (as_codec spec.value)

-- for a set of attribute types: this holds of each type
abbrev pub AttributeSetLaws : AttributeSet → Type 0
AttributeSetLaws [] = Unit {0}
AttributeSetLaws (spec ∷ others) = AttributeSpecLaws spec × AttributeSetLaws others

-- for a reply: its header keeps the codec laws, also if attributes follow, and its set of attribute
-- types keeps them
pub record ResponseLaws (spec : ResponseSpec) : Type 0 where
  pub header : KeepsCodecLaws (as_codec spec.header)
  pub as_prefix : IsPrefixCodec spec.header spec.size
  pub attribute_set : AttributeSetLaws spec.attribute_set
