-- Sets of attribute types. A set determines what each attribute decodes to, which attributes are
-- equivalent, and what a decoded value serializes to. In a set `spec ∷ others`, `spec` is the first
-- type. Of a value of `A ⊎ B`, `inl x` is one of `A`, and `inr y` is one of `B`.
use Rattle.std.specs.Prelude.{◌≡◌, ◌≢◌, ℕ, ◌⊎◌, ◌==◌, if◌then◌else◌, cond, Bool, true, false, ◌<◌}
use Rattle.std.specs.Prelude.{◌^◌, List, [], ◌∷◌, map, Option, Some, None, Result, Ok, ⊤}
use Rattle.std.proofs.Common.{inl, inr}
use Rattle.netlink_core.specs.declared.error.DecodeError.{DecodeError}
use Rattle.netlink_core.specs.Attribute.{Attribute, attribute_kind}
use Rattle.netlink_core.specs.Bytes.{IsBytes}
use Rattle.netlink_core.specs.Errors.{map_ok}
use Rattle.netlink_core.specs.ValueCodec.{ValueCodec}

-- one attribute type
pub record AttributeSpec : Type 1 where
  -- its kind: `nla_type` without the two flag bits
  pub number : ℕ
  -- the codec of its values
  pub value : ValueCodec (Unit {0})
  -- its values need no memory: `⊤` if so for all values of the type, else `⊥`
  pub needs_no_memory : Type 0

-- a set is a list of attribute types; of two types with the same kind the first counts
abbrev pub AttributeSet : Type 1
AttributeSet = List AttributeSpec

-- `kind_numbers set`: the kinds of the types of the set, in order
abbrev pub kind_numbers : AttributeSet → List ℕ
kind_numbers set = map (λ (spec : AttributeSpec). spec.number) set

-- `AttributeValue set`: what an attribute decodes to by the set, a decoded value. This is a value
-- of one of the types, or else the attribute itself, raw. In a set of two types, `inl x` is a value
-- of the first one, `inr (inl y)` of the second one, and `inr (inr a)` is a raw attribute. So below
-- the equation for `[]` is the one for raw attributes.
abbrev pub AttributeValue : AttributeSet → Type 0
AttributeValue [] = Attribute
AttributeValue (spec ∷ others) = spec.value.Value ⊎ AttributeValue others

-- `decode_attribute set a`: decodes the attribute `a` by the first type of its kind, or returns the
-- error of its value; an attribute whose kind is not in the set decodes to itself; the two flag
-- bits are not considered. The empty set `[]` has no kind, so every value is accepted, and only the
-- framing of attributes can be invalid.
abbrev pub decode_attribute : (set : AttributeSet) → Attribute
    → Result (AttributeValue set) DecodeError
decode_attribute [] a = Ok a
decode_attribute (spec ∷ others) a =
    if attribute_kind a == spec.number then map_ok inl (spec.value.parses tt a.value)
    else map_ok inr (decode_attribute others a)

-- `encode_attribute set v`: the attribute that the decoded value `v` serializes as: its kind,
-- without flag bits, as the type field, and the bytes of its value; a raw attribute is unchanged
abbrev pub encode_attribute : (set : AttributeSet) → AttributeValue set → Attribute
encode_attribute [] a = a
encode_attribute (spec ∷ others) (inl x) = record {
  type_word = spec.number;
  value = spec.value.bytes x;
}
encode_attribute (spec ∷ others) (inr v) = encode_attribute others v

-- `AreEquivalentAttributes set a b`: two attributes are equivalent. They have the same kind, which
-- is in the set, and equivalent values (by the first type of this kind), whatever their flag bits
-- are. Or neither kind is in the set, and the attributes are equal, including their flag bits.
abbrev pub AreEquivalentAttributes : AttributeSet → Attribute → Attribute → Type 0
AreEquivalentAttributes [] a b = a ≡ b
AreEquivalentAttributes (spec ∷ others) a b = cond (attribute_kind a == spec.number)
    ((attribute_kind b ≡ spec.number) × spec.value.equivalent tt a.value b.value)
    ((attribute_kind b ≢ spec.number) × AreEquivalentAttributes others a b)

-- `IsInRangeIn set v`: the decoded value `v` is in range. A value of an attribute type (`inl`) is
-- in range by the codec of this type. A raw attribute has a type field of 16 bits, and its value is
-- bytes.
abbrev pub IsInRangeIn : (set : AttributeSet) → AttributeValue set → Type 0
IsInRangeIn [] a = (a.type_word < 2 ^ 16) × IsBytes a.value
IsInRangeIn (spec ∷ others) (inl x) = spec.value.is_in_range x
IsInRangeIn (spec ∷ others) (inr v) = IsInRangeIn others v

-- `IsNormalIn set v`: the decoded value `v` is in normal form. For a value of an attribute type
-- (`inl`) this requires that it is in normal form by the codec of this type, and that no earlier
-- type of the set has the same kind. For a raw attribute it requires that no type of the set has
-- its kind. The last equation states this of each earlier type in turn: `v` is not of the type
-- `spec`, and so must be of another kind.
abbrev pub IsNormalIn : (set : AttributeSet) → AttributeValue set → Type 0
IsNormalIn [] a = ⊤
IsNormalIn (spec ∷ others) (inl x) = spec.value.is_normal tt x
IsNormalIn (spec ∷ others) (inr v) =
    (attribute_kind (encode_attribute others v) ≢ spec.number) × IsNormalIn others v

-- `NeedsNoMemoryIn set v`: the decoded value `v` needs no memory. Its attribute type says so for
-- all its values (`needs_no_memory`). A raw attribute always counts as needing memory.
abbrev pub NeedsNoMemoryIn : (set : AttributeSet) → AttributeValue set → Type 0
NeedsNoMemoryIn [] a = ⊥
NeedsNoMemoryIn (spec ∷ others) (inl x) = spec.needs_no_memory
NeedsNoMemoryIn (spec ∷ others) (inr v) = NeedsNoMemoryIn others v

-- ---- by kind

-- `ValueOfKind set k`: what attributes of the kind `k` decode to: the type `Value` of the first
-- attribute type of this kind, or `Attribute`, a raw attribute, if no attribute type has this kind
abbrev pub ValueOfKind : AttributeSet → ℕ → Type 0
ValueOfKind [] k = Attribute
ValueOfKind (spec ∷ others) k = cond (spec.number == k) spec.value.Value (ValueOfKind others k)

-- `inject is_first as_decoded x`: the value `x` as a decoded value of a set. It is one step of
-- `value_as_decoded`, below. If `is_first` is true, `x` is a value of the first type of the set
-- (`First`), and so becomes `inl`. If it is false, `x` is a value of another type (`Other`);
-- `as_decoded` makes it a decoded value of the other types (`DecodedOther`), and this becomes
-- `inr`. The type of `x` is `cond is_first First Other`: `First` or `Other`, accordingly.
abbrev pub inject : {First Other DecodedOther : Type 0} → (is_first : Bool)
    → (as_decoded : Other → DecodedOther) → cond is_first First Other → First ⊎ DecodedOther
inject true as_decoded x = inl x
inject false as_decoded x = inr (as_decoded x)

-- `value_as_decoded set k x`: the value `x`, which is of the kind `k`, as a decoded value. If no
-- type of the set has this kind, `x` is a raw attribute; its own kind is not considered.
abbrev pub value_as_decoded : (set : AttributeSet) → (k : ℕ) → ValueOfKind set k
    → AttributeValue set
value_as_decoded [] k a = a
value_as_decoded (spec ∷ others) k x = inject (spec.number == k) (value_as_decoded others k) x

-- `project is_first find v`: looks for a value of some kind in the decoded value `v`. It is one
-- step of `value_of_kind`, below. If `is_first` is true, this is the kind of the first type of the
-- set: `Some x` if `v` is the value `x` of this type (`inl x`). If it is false, it is the kind of
-- another type: if `v` is a decoded value of the other types (`inr`), `find` looks in it. In the
-- other two cases, `None`.
abbrev pub project : {First Other DecodedOther : Type 0} → (is_first : Bool)
    → (find : DecodedOther → Option Other) → First ⊎ DecodedOther
    → Option (cond is_first First Other)
project true find (inl x) = Some x
project false find (inr v) = find v
project is_first find v = None

-- `value_of_kind set k v`: `Some` of the value if the decoded value `v` is a value of the attribute
-- type of the kind `k`; `None` if it is one of another type, or a raw attribute of any kind
abbrev pub value_of_kind : (set : AttributeSet) → (k : ℕ) → AttributeValue set
    → Option (ValueOfKind set k)
value_of_kind [] k a = None
value_of_kind (spec ∷ others) k v = project (spec.number == k) (value_of_kind others k) v
