-- The attribute at the start of bytes, or the error of bytes that do not begin with one.
use Rattle.std.proofs.Common.{Result, Ok, Err, ◌≡◌, ◌∙◌, ◌⊎◌, inl, inr, ℕ, ◌+◌, ◌-◌, ◌*◌, ◌/◌, ◌%◌}
use Rattle.std.proofs.Common.{◌^◌, ◌≤◌, List, [], ◌∷◌, ◌++◌, suc, length, take, drop, refl, sym, ap}
use Rattle.std.proofs.Common.{arith, ◌<◌}
use Rattle.std.proofs.lemmas.List.{take-append-drop, length-take, length-append, take_all}
use Rattle.byteorder.specs.Endian.{little_number}
use Rattle.netlink_core.specs.declared.error.DecodeError.{DecodeError}
use Rattle.netlink_core.specs.declared.error.DecodeError.TheVariants as errors
use Rattle.netlink_core.specs.Bytes.{IsBytes}
use Rattle.netlink_core.specs.Attribute.{Attribute, header_and_value, attribute_bytes}
pub use Rattle.netlink_core.specs.Attribute.{FitsHeaderFields}
use Rattle.netlink_core.specs.Attribute.{HasAttributePrefix, IsFramingError, IsFirstAttributeError}
use Rattle.netlink_core.specs.laws.Byte.{IsBytes-append, IsBytes-left, IsBytes-number}
use Rattle.netlink_core.specs.laws.Byte.{IsBytes-zeros}

-- the type field has 16 bits, and the value is bytes
abbrev pub IsAttributeInRange : Attribute → Type 0
IsAttributeInRange a = (a.type_word < 2 ^ 16) × IsBytes a.value

-- ---- the first attribute

-- bytes with a valid length field begin with an attribute whose value is between its header and the
-- end that the length field gives
pub has_attribute_prefix : (bytes : List ℕ) (nla_len type_word : ℕ) → IsBytes bytes
    → nla_len ≡ little_number 2 bytes
    → type_word ≡ little_number 2 (take (length bytes - 2) (drop 2 bytes))
    → 4 ≤ nla_len → nla_len ≤ length bytes
    → HasAttributePrefix bytes (record {
      type_word = type_word;
      value = take (nla_len - 4) (drop 4 bytes);
    })
has_attribute_prefix (a ∷ b ∷ c ∷ d ∷ tail) nla_len type_word fits len-is type-is low high =
    let number : type_word ≡ c + 256 * (d + 256 * 0) =
    type-is ∙ ap (little_number 2) (take_all _ (c ∷ d ∷ tail) (omega arith)) in
    let value_len : length (take (nla_len - 4) tail) ≡ nla_len - 4 =
    omega (arith, length-take (nla_len - 4) tail) in
    let header : (a ≡ (4 + length (take (nla_len - 4) tail)) % 256)
    × (b ≡ (4 + length (take (nla_len - 4) tail)) / 256 % 256) × (c ≡ type_word % 256)
    × (d ≡ type_word / 256 % 256) = omega (arith, fits 0, fits 1, fits 2, fits 3) in (
      drop (nla_len - 4) tail,
      cc (take-append-drop (nla_len - 4) tail),
      omega (arith, fits 2, fits 3),
    )
has_attribute_prefix bytes nla_len type_word fits len-is type-is low high = absurd (omega arith)

-- if two concatenations are equal and their first parts have the same length, then both parts are
-- equal
pub equal_parts : (xs ys s t : List ℕ) → length xs ≡ length ys → xs ++ s ≡ ys ++ t → (xs ≡ ys)
    × (s ≡ t)
equal_parts [] [] s t len e = (refl, e)
equal_parts (x ∷ xs) (y ∷ ys) s t len e =
    grind (arith, equal_parts xs ys s t)
equal_parts xs ys s t len e = absurd (omega arith)

-- the first attribute is determined by the bytes, and so are the bytes after it
pub one_attribute_prefix : (a b : Attribute) (s t : List ℕ) → FitsHeaderFields a
    → FitsHeaderFields b
    → header_and_value a ++ s ≡ header_and_value b ++ t → (a ≡ b) × (s ≡ t)
one_attribute_prefix a b s t a-fits b-fits e =
    grind (arith, equal_parts a.value b.value s t)

-- the attribute at the start of bytes is in range
pub attribute_prefix_in_range : (b : List ℕ) (a : Attribute) → IsBytes b → HasAttributePrefix b a
    → IsAttributeInRange a
attribute_prefix_in_range b a in_range h = (
  h.2.0,
  IsBytes-left a.value h.0 (λ i. (rw h.1 at in_range) (suc (suc (suc (suc i))))),
)

-- bytes begin with at most one attribute
pub one_attribute : (b : List ℕ) (x y : Attribute) → HasAttributePrefix b x → HasAttributePrefix b y
    → x ≡ y
one_attribute b x y h k = (one_attribute_prefix x y h.0 k.0 h.2 k.2 (sym h.1 ∙ k.1)).0

-- an attribute in range serializes to bytes
pub attribute_bytes_in_range : (a : Attribute) → IsAttributeInRange a → IsBytes (attribute_bytes a)
attribute_bytes_in_range a in_range = search (IsBytes-append, IsBytes-number, IsBytes-zeros) depth 7

-- ---- an attribute or an error

-- the length field of bytes that begin with an attribute counts its header and its value, and is at
-- most the number of bytes
pub length_field_counts : (bytes : List ℕ) (a : Attribute) → HasAttributePrefix bytes a
    → (little_number 2 bytes ≡ 4 + length a.value) × (4 + length a.value ≤ length bytes)
length_field_counts bytes a head =
    grind (arith, length-append)

-- bytes that begin with an attribute have no framing error
pub prefix_or_error_apart : (bytes : List ℕ) (a : Attribute) (e : DecodeError)
    → HasAttributePrefix bytes a
    → IsFramingError bytes e → ⊥
prefix_or_error_apart bytes a e head f =
    grind (arith, length_field_counts bytes a head)

-- `count` bytes with a length field (`field`) are too few for a header, which has `least` bytes; or
-- the field is below this number; or it is above the number of bytes; or none of these
pub length_field_cases : (least count field : ℕ)
    → (count < least) ⊎ (((least ≤ count) × (field < least))
    ⊎ (((least ≤ count) × (least ≤ field) × (count < field))
    ⊎ ((least ≤ field) × (field ≤ count))))
length_field_cases least count field = grind arith

-- bytes begin with an attribute or have a framing error
pub prefix_or_framing_error : (bytes : List ℕ) → IsBytes bytes
    → ((a : Attribute) × HasAttributePrefix bytes a)
    ⊎ ((e : DecodeError) × IsFramingError bytes e)
prefix_or_framing_error bytes fits =
    elim (length_field_cases 4 (length bytes) (little_number 2 bytes)) [
      | inl short ↦ inr (errors.AttributeHeaderCut (length bytes), (refl, short))
      | inr (inl under) ↦ inr (
        errors.AttributeLengthUnder4 (little_number 2 bytes),
        (refl, under.0, under.1),
      )
      | inr (inr (inl past)) ↦ inr (
        errors.AttributeLengthPast (little_number 2 bytes) (length bytes),
        (refl, refl, past.0, past.1, past.2),
      )
      | inr (inr (inr there)) ↦ inl (
        _,
        has_attribute_prefix bytes _ _ fits refl refl there.0 there.1,
      )
    ]

-- a result is a value or an error
pub value_or_error : {A : Type 0} (read : Result A DecodeError) → ((value : A) × (read ≡ Ok value))
    ⊎ ((e : DecodeError) × (read ≡ Err e))
value_or_error (Ok value) = inl (value, refl)
value_or_error (Err e) = inr (e, refl)

-- bytes have at most one framing error, and at most one error of their first attribute
pub one_attribute_framing_error : (bytes : List ℕ) (e f : DecodeError) → IsFramingError bytes e
    → IsFramingError bytes f → e ≡ f
one_attribute_framing_error bytes e f h k = grind arith

module _ {A : Type 0} (parses : Attribute → Result A DecodeError) where
  pub one_first_attribute_error : (bytes : List ℕ) (e f : DecodeError)
      → IsFirstAttributeError parses bytes e
      → IsFirstAttributeError parses bytes f → e ≡ f
  one_first_attribute_error bytes e f (inl framing) (inl also) =
      one_attribute_framing_error bytes e f framing also
  one_first_attribute_error bytes e f (inl framing) (inr (a, head, refused)) =
      grind (arith, prefix_or_error_apart bytes a e head framing)
  one_first_attribute_error bytes e f (inr (a, head, refused)) k =
      grind (arith, prefix_or_error_apart bytes a f head, one_attribute bytes a)
