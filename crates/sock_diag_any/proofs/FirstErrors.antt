-- The attributes and the framing error that bytes consist of, and the first error among them by a
-- set of attribute types. It decides whether the bytes decode.
use Rattle.std.proofs.Common.{◌≡◌, ◌∙◌, ℕ, List, [], ◌∷◌, inl, inr, refl, ap, subst}
use Rattle.std.proofs.Common.{Option, Some, None, Result, Ok, Err}
use Rattle.std.specs.Option.{option_or}
use Rattle.std.specs.Result.{result_err}
use Rattle.netlink_core.specs.Attribute.{Attribute, DecodeTo, HasAttributeError, IsFramingError}
use Rattle.netlink_core.specs.Attribute.{SplitsIntoAttributes, SplitsUntilError}
use Rattle.netlink_core.specs.Attribute.{StartsWithAttribute}
use Rattle.netlink_core.specs.AttributeSet.{AttributeSet, AttributeValue, decode_attribute}
use Rattle.netlink_core.specs.Bytes.{IsBytes}
use Rattle.netlink_core.specs.declared.error.DecodeError.{DecodeError}
use Rattle.netlink_core.proofs.Iterating.{StartsWithAttribute-nonempty, attribute_prefix_of_start}
use Rattle.netlink_core.proofs.Iterating.{error_of_first_attribute, error_of_rest}
use Rattle.netlink_core.proofs.Splitting.{decoded_or_error, decoded_or_error_apart}
use Rattle.netlink_core.proofs.Splitting.{one_error_of_attributes}

-- The bytes are these attributes, and then nothing (None) or bytes with a framing error.
abbrev pub EndsWith : List ℕ → List Attribute → Option DecodeError → Type 0
EndsWith bytes attributes None = SplitsIntoAttributes bytes attributes []
EndsWith bytes attributes (Some e) = SplitsUntilError IsFramingError bytes attributes e

-- The first attribute is at the start, and the others follow.
pub first_and_others : (bytes : List ℕ) (a : Attribute) (others : List Attribute)
    (end : Option DecodeError)
    → EndsWith bytes (a ∷ others) end
    → (left : List ℕ) × StartsWithAttribute bytes a left × EndsWith left others end
first_and_others bytes a others None (left, start, split) = (left, start, split)
first_and_others bytes a others (Some e) (rest, (left, start, split), some, error) =
    (left, start, (rest, split, some, error))

-- Bytes are attributes and an end.
pub split_of_bytes : (bytes : List ℕ) → IsBytes bytes
    → (attributes : List Attribute) × (end : Option DecodeError) × EndsWith bytes attributes end
split_of_bytes bytes is_bytes =
    elim (decoded_or_error (λ (a : Attribute). Ok a) bytes is_bytes) [
      | inl (values, (attributes, split, same)) ↦ (attributes, None, split)
      | inr (e, (attributes, (rest, split, some, error), good)) ↦ elim error [
        | inl framing ↦ (attributes, Some e, (rest, split, some, framing))
        | inr (a, prefix, wrong) ↦ absurd cc
      ]
    ]

module _ (F : AttributeSet) where
  -- `first_error attributes end`: the error of the first attribute that the set rejects, or else
  -- the error at the end
  abbrev pub first_error : List Attribute → Option DecodeError → Option DecodeError
  first_error [] end = end
  first_error (a ∷ later) end =
      option_or (result_err (decode_attribute F a)) (first_error later end)

  -- The values of bytes without an error begin with that of the first attribute.
  values_from_first : (bytes left : List ℕ) (a : Attribute) (later : Option DecodeError)
      (decoded : Result (AttributeValue F) DecodeError) → decode_attribute F a ≡ decoded
      → StartsWithAttribute bytes a left
      → option_or (result_err (decode_attribute F a)) later ≡ None
      → (later ≡ None
      → (values : List (AttributeValue F)) × DecodeTo (decode_attribute F) left values)
      → (values : List (AttributeValue F)) × DecodeTo (decode_attribute F) bytes values
  values_from_first bytes left a later (Ok v) h start none others =
      let (values, (attributes, split, same)) = others (rw h at none) in
      (v ∷ values, (a ∷ attributes, (left, start, split), (h, same)))
  values_from_first bytes left a later (Err e) h start none others =
      let wrong : Some e ≡ None = rw h at none in
      absurd (cc wrong)

  -- Bytes without an error decode.
  pub values_without_error : (bytes : List ℕ) (attributes : List Attribute)
      (end : Option DecodeError)
      → EndsWith bytes attributes end → first_error attributes end ≡ None
      → (values : List (AttributeValue F)) × DecodeTo (decode_attribute F) bytes values
  values_without_error bytes [] None ends none = ([], ([], ends, tt))
  values_without_error bytes [] (Some e) ends none = absurd (cc none)
  values_without_error bytes (a ∷ others) end ends none =
      let first = first_and_others bytes a others end ends in
      values_from_first bytes first.0 a (first_error others end) (decode_attribute F a) refl first.1
      none (values_without_error first.0 others end first.2)

  -- An error of bytes is that of the first attribute, or of the bytes after it.
  error_from_first : (bytes left : List ℕ) (a : Attribute) (later : Option DecodeError)
      (e : DecodeError) (decoded : Result (AttributeValue F) DecodeError)
      → decode_attribute F a ≡ decoded → StartsWithAttribute bytes a left
      → option_or (result_err (decode_attribute F a)) later ≡ Some e
      → (later ≡ Some e → HasAttributeError (decode_attribute F) left e)
      → HasAttributeError (decode_attribute F) bytes e
  error_from_first bytes left a later e (Ok v) h start is others =
      error_of_rest (decode_attribute F) bytes left a v e start h (others (rw h at is))
  error_from_first bytes left a later e (Err f) h start is others =
      let same : Some f ≡ Some e = rw h at is in
      let equal : f ≡ e = cc same in
      error_of_first_attribute (decode_attribute F) bytes e
      (StartsWithAttribute-nonempty bytes left a start)
      (inr (a, attribute_prefix_of_start bytes left a start, h ∙ ap Err equal))

  -- The first error is the error of the bytes.
  pub first_error_is_error : (bytes : List ℕ) (attributes : List Attribute)
      (end : Option DecodeError) (e : DecodeError)
      → EndsWith bytes attributes end → first_error attributes end ≡ Some e
      → HasAttributeError (decode_attribute F) bytes e
  first_error_is_error bytes [] None e ends is = absurd (cc is)
  first_error_is_error bytes [] (Some f) e (rest, split, some, error) is =
      let same : f ≡ e = cc is in (
        [],
        (rest, split, some, inl (subst (λ (g : DecodeError). IsFramingError rest g) same error)),
        tt,
      )
  first_error_is_error bytes (a ∷ others) end e ends is =
      let first = first_and_others bytes a others end ends in
      error_from_first bytes first.0 a (first_error others end) e (decode_attribute F a) refl
      first.1 is (first_error_is_error first.0 others end e first.2)

  -- Bytes that decode have no error.
  pub no_error_of_decoded : (bytes : List ℕ) (attributes : List Attribute)
      (end found : Option DecodeError) (values : List (AttributeValue F))
      → EndsWith bytes attributes end → first_error attributes end ≡ found
      → DecodeTo (decode_attribute F) bytes values → first_error attributes end ≡ None
  no_error_of_decoded bytes attributes end None values ends is decoded = is
  no_error_of_decoded bytes attributes end (Some e) values ends is decoded =
      absurd (decoded_or_error_apart (decode_attribute F) bytes values e decoded
      (first_error_is_error bytes attributes end e ends is))

  -- The error of bytes is the first one.
  pub error_is_first_error : (bytes : List ℕ) (attributes : List Attribute)
      (end found : Option DecodeError) (e : DecodeError)
      → EndsWith bytes attributes end → first_error attributes end ≡ found
      → HasAttributeError (decode_attribute F) bytes e → first_error attributes end ≡ Some e
  error_is_first_error bytes attributes end None e ends is error =
      let (values, decoded) = values_without_error bytes attributes end ends is in
      absurd (decoded_or_error_apart (decode_attribute F) bytes values e decoded error)
  error_is_first_error bytes attributes end (Some f) e ends is error =
      is ∙ ap Some (one_error_of_attributes (decode_attribute F) bytes f e
      (first_error_is_error bytes attributes end f ends is) error)
