-- Bytes are split into attributes in at most one way, and either these parse as values or the bytes
-- have an error.
use Rattle.std.proofs.lemmas.Grind.{common_steps}
use Rattle.std.proofs.Common.{◌<◌, Option, Some, None, Result, Ok, ◌≡◌, ◌≢◌, ℕ, ◌+◌, ◌⊎◌, inl, inr}
use Rattle.std.proofs.Common.{List, [], ◌∷◌, ◌++◌, length, drop, replicate, refl, sym, ap, ◌∙◌}
use Rattle.std.proofs.Common.{append_assoc, append-nil, arith, subst}
use Rattle.std.specs.Prelude.{IsOk}
use Rattle.std.proofs.lemmas.List.{length-append, length-replicate, length-drop}
use Rattle.std.specs.List.{AllZip, AllByRecursion, flat_map}
use Rattle.netlink_core.specs.declared.error.DecodeError.{DecodeError}
use Rattle.netlink_core.specs.Bytes.{IsBytes}
use Rattle.netlink_core.specs.Attribute.{SplitsUntilError}
use Rattle.netlink_core.specs.Attribute.{Attribute, padding_length, header_and_value}
use Rattle.netlink_core.specs.Attribute.{FitsHeaderFields}
use Rattle.netlink_core.specs.Attribute.{attribute_bytes, StartsWithAttribute, SplitsIntoAttributes}
use Rattle.netlink_core.specs.Attribute.{IsFirstAttributeError, DecodeTo, HasAttributeError}
use Rattle.netlink_core.specs.laws.Byte.{IsBytes-nil, IsBytes-right}
use Rattle.netlink_core.specs.laws.Prefix.{IsAttributeInRange, equal_parts, one_attribute_prefix}
use Rattle.netlink_core.specs.laws.Prefix.{attribute_bytes_in_range, length_field_counts}
use Rattle.netlink_core.specs.laws.Prefix.{prefix_or_error_apart, prefix_or_framing_error}
use Rattle.netlink_core.specs.laws.Prefix.{value_or_error, one_first_attribute_error, one_attribute}
use Rattle.netlink_core.specs.laws.Prefix.{attribute_prefix_in_range}
use Rattle.netlink_core.proofs.TableLaws.{AreBytes-drop}
use Rattle.netlink_core.proofs.Padding.{starts_with_attribute, by_length, some_or_none}
use Rattle.netlink_core.proofs.Iterating.{attribute_prefix_of_start, error_of_rest}
use Rattle.netlink_core.proofs.Iterating.{error_of_first_attribute}

-- ---- bytes are split in at most one way

-- the bytes after a padding are determined, if the padding is complete, or if nothing follows it
pub one_rest_after_padding : (n : ℕ) (p q rest after : List ℕ)
    → (length p ≡ n) ⊎ ((length p < n) × (rest ≡ []))
    → (length q ≡ n) ⊎ ((length q < n) × (after ≡ [])) → p ++ rest ≡ q ++ after → rest ≡ after
one_rest_after_padding n p q rest after h k e =
    grind (arith, equal_parts p q rest after, length-append p rest, length-append q after)

-- the first attribute and the bytes after its padding are determined by the bytes
pub one_first_attribute : (bytes rest after : List ℕ) (a b : Attribute)
    → StartsWithAttribute bytes a rest
    → StartsWithAttribute bytes b after → (a ≡ b) × (rest ≡ after)
one_first_attribute bytes rest after a b s t =
    let heads = one_attribute_prefix a b (s.padding ++ rest) (t.padding ++ after) s.fits t.fits
    (sym s.parts
    ∙ t.parts) in (
      heads.0,
      one_rest_after_padding _ s.padding t.padding rest after s.filled
          (rw heads.0 t.filled) heads.1,
    )

-- bytes are split into at most one list of attributes
pub one_split_into_attributes : (bytes : List ℕ) (xs ys : List Attribute)
    → SplitsIntoAttributes bytes xs [] → SplitsIntoAttributes bytes ys []
    → xs ≡ ys
one_split_into_attributes bytes [] [] h k = refl
one_split_into_attributes bytes (x ∷ xs) (y ∷ ys) h k =
    grind (
      arith,
      one_first_attribute bytes h.0 k.0 x y h.1 k.1,
      one_split_into_attributes h.0 xs ys h.2,
    )
one_split_into_attributes bytes xs ys h k = grind arith

-- ---- serialized attributes are split

-- the bytes that attributes serialize to are split into these attributes, whatever follows
pub attribute_bytes_split : (xs : List Attribute) → AllByRecursion FitsHeaderFields xs
    → (rest : List ℕ)
    → SplitsIntoAttributes (flat_map attribute_bytes xs ++ rest) xs rest
attribute_bytes_split [] fits rest = refl
attribute_bytes_split (x ∷ xs) fits rest = (
  flat_map attribute_bytes xs ++ rest,
  record {
    padding = replicate (padding_length (length x.value)) 0;
    parts = simp append_assoc refl;
    fits = fits.0;
    filled = inl (length-replicate _ 0);
  },
  attribute_bytes_split xs fits.1 rest,
)

-- also if nothing follows
pub all_attribute_bytes_split : (xs : List Attribute) → AllByRecursion FitsHeaderFields xs
    → SplitsIntoAttributes (flat_map attribute_bytes xs) xs []
all_attribute_bytes_split xs fits =
    subst (λ (b : List ℕ). SplitsIntoAttributes b xs []) (append-nil (flat_map attribute_bytes xs))
    (attribute_bytes_split xs fits [])

-- ---- attributes in bytes are in range

-- attributes in range serialize to bytes
pub all_attribute_bytes_in_range : (xs : List Attribute) → AllByRecursion IsAttributeInRange xs
    → IsBytes (flat_map attribute_bytes xs)
all_attribute_bytes_in_range [] in_range = IsBytes-nil
all_attribute_bytes_in_range (x ∷ xs) in_range =
    grind (
      arith,
      common_steps,
      attribute_bytes_in_range,
      all_attribute_bytes_in_range xs in_range.1,
    )

-- the attributes that bytes are split into are in range
pub split_attributes_in_range : (bytes : List ℕ) (xs : List Attribute) → IsBytes bytes
    → SplitsIntoAttributes bytes xs []
    → AllByRecursion IsAttributeInRange xs
split_attributes_in_range bytes [] in_range h = tt
split_attributes_in_range bytes (x ∷ xs) in_range h = (
  attribute_prefix_in_range bytes x in_range (attribute_prefix_of_start bytes h.0 x h.1),
  split_attributes_in_range h.0 xs (IsBytes-right h.1.padding _
      (IsBytes-right (header_and_value x) _ (rw h.1.parts at in_range))) h.2,
)

-- ---- at most one result

module _ {A : Type 0} (parses : Attribute → Result A DecodeError) where
  -- the bytes are attributes that parse, consecutive, and then no bytes are left, or bytes with
  -- this error
  abbrev ParsesUntil : List ℕ → List Attribute → Option DecodeError → Type 0
  ParsesUntil bytes [] None = bytes ≡ []
  ParsesUntil bytes [] (Some e) = (bytes ≢ []) × IsFirstAttributeError parses bytes e
  ParsesUntil bytes (a ∷ later) end =
      (rest : List ℕ) × StartsWithAttribute bytes a rest × IsOk (parses a)
      × ParsesUntil rest later end

  decoded_parses_until : (bytes : List ℕ) (xs : List Attribute) (values : List A)
      → SplitsIntoAttributes bytes xs []
      → AllZip (λ a value. parses a ≡ Ok value) xs values → ParsesUntil bytes xs None
  decoded_parses_until bytes (x ∷ xs) (v ∷ values) h k =
      grind (arith, decoded_parses_until h.0 xs values h.2 k.1)
  decoded_parses_until bytes xs values h k = grind arith

  error_parses_until : (bytes : List ℕ) (xs : List Attribute) (e : DecodeError)
      → SplitsUntilError (IsFirstAttributeError parses) bytes xs e
      → AllByRecursion (λ a. IsOk (parses a)) xs
      → ParsesUntil bytes xs (Some e)
  error_parses_until bytes [] e (rest, cut, left, error) good = rw cut (left, error)
  error_parses_until bytes (a ∷ xs) e (rest, (later, start, cut), left, error) good =
      (later, start, good.0, error_parses_until later xs e (rest, cut, left, error) good.1)

  -- bytes that begin with an attribute that parses are neither empty nor have an error
  attribute_excludes_end : (bytes rest : List ℕ) (a : Attribute) (end : Option DecodeError)
      → StartsWithAttribute bytes a rest → IsOk (parses a) → ParsesUntil bytes [] end → ⊥
  attribute_excludes_end bytes rest a end s good h =
      grind (
        arith,
        attribute_prefix_of_start bytes rest a s,
        prefix_or_error_apart bytes a,
        one_attribute bytes a,
      )

  one_end_of_attributes : (bytes : List ℕ) (xs ys : List Attribute) (e f : Option DecodeError)
      → ParsesUntil bytes xs e → ParsesUntil bytes ys f → e ≡ f
  one_end_of_attributes bytes [] [] (Some e) (Some f) h k =
      ap Some (one_first_attribute_error parses bytes e f h.1 k.1)
  one_end_of_attributes bytes [] [] None None h k = refl
  one_end_of_attributes bytes [] [] e f h k = grind arith
  one_end_of_attributes bytes [] (y ∷ ys) e f h k =
      absurd (attribute_excludes_end bytes k.0 y e k.1 k.2 h)
  one_end_of_attributes bytes (x ∷ xs) [] e f h k =
      absurd (attribute_excludes_end bytes h.0 x f h.1 h.2 k)
  one_end_of_attributes bytes (x ∷ xs) (y ∷ ys) e f h k =
      grind (
        arith,
        one_end_of_attributes h.0 xs ys e f h.3,
        one_first_attribute bytes h.0 k.0 x y h.1 k.1,
      )

  -- bytes do not have both values and an error
  pub decoded_or_error_apart : (bytes : List ℕ) (values : List A) (e : DecodeError)
      → DecodeTo parses bytes values → HasAttributeError parses bytes e → ⊥
  decoded_or_error_apart bytes values e m f =
      let same = one_end_of_attributes bytes m.0 f.0 None (Some e)
      (decoded_parses_until bytes m.0 values m.1 m.2)
      (error_parses_until bytes f.0 e f.1 f.2) in
      cc

  -- bytes have at most one error
  pub one_error_of_attributes : (bytes : List ℕ) (e f : DecodeError)
      → HasAttributeError parses bytes e
      → HasAttributeError parses bytes f → e ≡ f
  one_error_of_attributes bytes e f h k =
      grind (
        arith,
        one_end_of_attributes bytes h.0 k.0 (Some e) (Some f)
            (error_parses_until bytes h.0 e h.1 h.2)
            (error_parses_until bytes k.0 f k.1 k.2),
        error_parses_until bytes h.0 e h.1 h.2,
        error_parses_until bytes k.0 f k.1 k.2,
      )

  -- ---- at least one result

  -- bytes have values or an error
  pub decoded_or_error : (bytes : List ℕ) → IsBytes bytes
      → ((meanings : List A) × DecodeTo parses bytes meanings)
      ⊎ ((e : DecodeError) × HasAttributeError parses bytes e)
  decoded_or_error = by_length _ (λ bytes later fits. elim (some_or_none bytes) [
    | inl none ↦ inl ([], ([], none, tt))
    | inr some ↦ elim (prefix_or_framing_error bytes fits) [
      | inr f ↦ inr (f.0, error_of_first_attribute parses bytes f.0 some (inl f.1))
      | inl (a, head) ↦
          let end : ℕ = 4 + length a.value + padding_length (4 + length a.value) in
          let rest : List ℕ = drop end bytes in
          let start = starts_with_attribute bytes rest a end head refl refl in
          elim (value_or_error (parses a)) [
            | inr r ↦ inr (r.0, error_of_first_attribute parses bytes r.0 some (inr (a, head, r.1)))
            | inl m ↦
                elim (later rest (omega (
                  arith,
                  length_field_counts bytes a head,
                  length-drop end bytes,
                ))
                (AreBytes-drop end bytes fits)) [
                  | inl n ↦ inl (m.0 ∷ n.0, (a ∷ n.1.0, (rest, start, n.1.1), (m.1, n.1.2)))
                  | inr f ↦ inr (f.0, error_of_rest parses bytes rest a m.0 f.0 start m.1 f.1)
                ]
          ]
    ]
  ])

  -- ---- serialized attributes parse as their values

  -- the bytes that attributes serialize to parse as the values that these attributes parse as
  pub encoded_values_are_decoded : (xs : List Attribute) (values : List A)
      → AllByRecursion FitsHeaderFields xs → AllZip (λ a value. parses a ≡ Ok value) xs values
      → DecodeTo parses (flat_map attribute_bytes xs) values
  encoded_values_are_decoded xs values fits h =
      grind (
        arith,
        all_attribute_bytes_split xs fits,
      )
