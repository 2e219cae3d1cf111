-- Attributes in bytes (`struct nlattr` of linux/netlink.h): how bytes are split into attributes,
-- and the first error of bytes that cannot be split.
use Rattle.std.specs.Prelude.{◌≡◌, ◌≢◌, ℕ, ◌+◌, ◌-◌, ◌%◌, ◌^◌, ◌<◌, ◌≤◌, ◌⊎◌, List, [], ◌∷◌, ◌++◌}
use Rattle.std.specs.Prelude.{length, replicate, bit_and, Result, Ok, Err, IsOk}
use Rattle.byteorder.specs.Endian.{little_bytes, little_number}
use Rattle.std.specs.List.{AllByRecursion, AllZip, flat_map}
use Rattle.netlink_core.specs.declared.error.DecodeError.{DecodeError}
use Rattle.netlink_core.specs.declared.error.DecodeError.TheVariants as errors

-- an attribute, without its length field, which follows from the value, and without its padding
pub record Attribute : Type 0 where
  -- `nla_type`, 16 bits, with its two flag bits
  pub type_word : ℕ
  -- the bytes between header and padding: `nla_len - 4` bytes
  pub value : List ℕ

-- `attribute_kind a`: the kind of the attribute `a`: `nla_type & NLA_TYPE_MASK` (0x3fff), so
-- without the two flag bits NLA_F_NESTED and NLA_F_NET_BYTEORDER
abbrev pub attribute_kind : Attribute → ℕ
attribute_kind a = bit_and a.type_word 0x3fff

-- `padding_length n`: the number of padding bytes, 0 to 3, that follow `n` bytes: NLA_ALIGN(n) - n
abbrev pub padding_length : ℕ → ℕ
padding_length n = (4 - n % 4) % 4

-- `header_and_value a`: the bytes of the attribute `a` without its padding: `nla_len` (4 plus the
-- length of the value), `nla_type`, and the value; both fields have 16 bits and are little-endian
abbrev pub header_and_value : Attribute → List ℕ
header_and_value a = little_bytes 2 (4 + length a.value) ++ little_bytes 2 a.type_word ++ a.value

-- `attribute_bytes a`: the bytes that the attribute `a` serializes to: header, value, and zeros as
-- padding up to a multiple of four. The padding depends only on the length of the value, since the
-- header has four bytes.
abbrev pub attribute_bytes : Attribute → List ℕ
attribute_bytes a = header_and_value a ++ replicate (padding_length (length a.value)) 0

-- `FitsLengthField a`: the value has at most 65,531 bytes, so that `nla_len`, 4 more, fits 16 bits
abbrev pub FitsLengthField : Attribute → Type 0
FitsLengthField a = length a.value ≤ 65531

-- `FitsHeaderFields a`: `nla_type` fits 16 bits, and the value has at most 65,531 bytes
abbrev pub FitsHeaderFields : Attribute → Type 0
FitsHeaderFields a = (a.type_word < 2 ^ 16) × FitsLengthField a

-- `AreWritableWithin attributes limit`: the value of each attribute has at most 65,531 bytes, and
-- all attributes with headers and paddings have at most `limit` bytes
abbrev pub AreWritableWithin : List Attribute → (limit : ℕ) → Type 0
AreWritableWithin attributes limit = AllByRecursion FitsLengthField attributes
    × (length (flat_map attribute_bytes attributes) ≤ limit)

-- `AreWritable attributes`: the value of each attribute has at most 65,531 bytes, and all
-- attributes with headers and paddings have at most 4,294,967,295 bytes (2^32 - 1), so that their
-- length fits 32 bits, as the length field of a message has
abbrev pub AreWritable : List Attribute → Type 0
AreWritable attributes = AreWritableWithin attributes 4294967295

-- `HasAttributePrefix bytes a`: the bytes begin with the attribute `a`, whose type field has 16
-- bits and whose value has at most 65,531 bytes. Unlike `StartsWithAttribute`, this says nothing of
-- what follows the value: any bytes may follow, and the padding may be missing.
abbrev pub HasAttributePrefix : List ℕ → Attribute → Type 0
HasAttributePrefix bytes a =
    (tail : List ℕ) × (bytes ≡ header_and_value a ++ tail) × FitsHeaderFields a

-- `StartsWithAttribute bytes a rest`: the bytes are the attribute `a`, its padding, and `rest`
-- (`parts`). The type field has 16 bits, and the value at most 65,531 bytes (`fits`). The padding
-- may have any content. It is complete, up to a multiple of four; it may be shorter only if `rest`
-- is empty (`filled`).
pub record StartsWithAttribute (bytes : List ℕ) (a : Attribute) (rest : List ℕ) : Type 0 where
  pub padding : List ℕ
  pub parts : bytes ≡ header_and_value a ++ (padding ++ rest)
  pub fits : FitsHeaderFields a
  pub filled : (length padding ≡ padding_length (length a.value))
      ⊎ ((length padding < padding_length (length a.value)) × (rest ≡ []))

-- `SplitsIntoAttributes bytes attributes rest`: the bytes are these attributes, consecutive and
-- each with its padding, and then `rest`. The padding of the last attribute may be short only if
-- `rest` is empty.
abbrev pub SplitsIntoAttributes : List ℕ → List Attribute → List ℕ → Type 0
SplitsIntoAttributes bytes [] rest = bytes ≡ rest
SplitsIntoAttributes bytes (first ∷ later) rest = (after_first : List ℕ)
    × StartsWithAttribute bytes first after_first × SplitsIntoAttributes after_first later rest

-- `IsFramingError bytes e`: the bytes do not begin with an attribute, and `e` is their first error:
-- fewer than 4 bytes; else `nla_len` (the first two bytes, little-endian) is below 4; else
-- `nla_len` is above the number of bytes. No other `DecodeError` is such an error (`⊥`).
abbrev pub IsFramingError : List ℕ → DecodeError → Type 0
IsFramingError bytes (errors.AttributeHeaderCut left) = (left ≡ length bytes) × (length bytes < 4)
IsFramingError bytes (errors.AttributeLengthUnder4 nla_len) =
    (nla_len ≡ little_number 2 bytes) × (4 ≤ length bytes) × (nla_len < 4)
IsFramingError bytes (errors.AttributeLengthPast nla_len left) =
    (nla_len ≡ little_number 2 bytes) × (left ≡ length bytes)
    × (4 ≤ length bytes) × (4 ≤ nla_len) × (length bytes < nla_len)
IsFramingError bytes _ = ⊥

-- `SplitsUntilError has_error bytes attributes e`: the bytes are these attributes, each with its
-- padding, and then other bytes, at least one (`rest`). The error of these other bytes is `e`, by
-- `has_error rest e`.
abbrev pub SplitsUntilError : (List ℕ → DecodeError → Type 0) → List ℕ → List Attribute
    → DecodeError → Type 0
SplitsUntilError has_error bytes attributes e =
    (rest : List ℕ) × SplitsIntoAttributes bytes attributes rest × (rest ≢ []) × has_error rest e

-- `parses` is a parser of one attribute: `parses a` is `Ok` of what the attribute `a` parses as, or
-- `Err` of the error that rejects it. It is the first argument of each definition below, most often
-- `decode_attribute set`. Among themselves these definitions do not write it.
module _ {A : Type 0} (parses : Attribute → Result A DecodeError) where
  -- `DecodeTo parses bytes values`: the bytes are split into attributes without any bytes left, and
  -- these parse as the values, in order, one value for each attribute
  abbrev pub DecodeTo : List ℕ → List A → Type 0
  DecodeTo bytes values = (attributes : List Attribute) × SplitsIntoAttributes bytes attributes []
      × AllZip (λ a value. parses a ≡ Ok value) attributes values

  -- `IsFirstAttributeError parses bytes e`: `e` is the first error at the start of the bytes.
  -- Either they do not begin with an attribute, and `e` is the error of the framing; or they begin
  -- with an attribute, and `e` is the error of its value.
  abbrev pub IsFirstAttributeError : List ℕ → DecodeError → Type 0
  IsFirstAttributeError bytes e = IsFramingError bytes e
      ⊎ ((a : Attribute) × HasAttributePrefix bytes a × (parses a ≡ Err e))

  -- `HasAttributeError parses bytes e`: `e` is the first error of the bytes, in the framing or in
  -- the value of an attribute. It is preceded only by attributes that `parses` accepts, each with
  -- its padding.
  abbrev pub HasAttributeError : List ℕ → DecodeError → Type 0
  HasAttributeError bytes e = (attributes : List Attribute)
      × SplitsUntilError IsFirstAttributeError bytes attributes e
      × AllByRecursion (λ a. IsOk (parses a)) attributes
