-- The values that are found in bytes (`decoded_in`) are the values of the attributes that the bytes
-- are split into.
use Rattle.std.proofs.Common.{Result, Ok, Err, IsOk, ◌≡◌, ◌≢◌, ℕ, List, [], ◌∷◌, drop, inl, inr}
use Rattle.std.proofs.Common.{◌↔◌, ◌≤◌, ◌<◌, subst, refl, ap, length, arith}
use Rattle.std.proofs.lemmas.List.{append-nil}
use Rattle.byteorder.specs.Endian.{little_number}
use Rattle.netlink_core.specs.declared.error.DecodeError.{DecodeError}
use Rattle.netlink_core.specs.declared.error.DecodeError.TheVariants as errors
use Rattle.netlink_core.specs.Bytes.{IsBytes}
use Rattle.netlink_core.specs.Attribute.{Attribute, StartsWithAttribute, IsFramingError}
use Rattle.netlink_core.specs.Attribute.{DecodeTo, HasAttributeError}
use Rattle.netlink_core.specs.AttributeSet.{decode_attribute}
use Rattle.netlink_core.specs.Response.{ResponseSpec, response_codec}
use Rattle.netlink_core.specs.laws.Prefix.{length_field_cases}
use Rattle.netlink_core.proofs.TableLaws.{AreBytes-drop}
use Rattle.netlink_core.proofs.Iterating.{StartsWithAttribute-nonempty, attribute_prefix_of_start}
use Rattle.netlink_core.proofs.Iterating.{error_of_rest, error_of_first_attribute}
use Rattle.netlink_core.proofs.Splitting.{decoded_or_error, decoded_or_error_apart}
use Rattle.attribute_lists.specs.AttributesIn.{HasNoAttributeError, reply_after, decoded_in}
use Rattle.attribute_lists.proofs.FirstAttribute.{first_attribute_is_found, no_attribute_is_found}

-- the value of a result that is not an error
value_of_ok : {A : Type 0} (answer : Result A DecodeError) → ((e : DecodeError)
    → answer ≡ Err e → ⊥) → (value : A) × (answer ≡ Ok value)
value_of_ok (Ok value) good = (value, refl)
value_of_ok (Err e) good = absurd (good e refl)

module _ {A : Type 0} (parses : Attribute → Result A DecodeError) where
  -- the value of the first attribute is the first value that is found
  pub value_first : (bytes rest : List ℕ) (a : Attribute) (v : A) → StartsWithAttribute bytes a rest
      → parses a ≡ Ok v → decoded_in parses bytes ≡ v ∷ decoded_in parses rest
  value_first bytes rest a v s reads_v = rw (first_attribute_is_found bytes rest a s, reads_v) refl

  -- if bytes parse as values, then these are found
  pub decoded_values_are_found : (bytes : List ℕ) (values : List A) → DecodeTo parses bytes values
      → decoded_in parses bytes ≡ values
  decoded_values_are_found bytes (v ∷ values) (a ∷ later, (rest, start, cut), (first, said)) =
      grind (
        arith,
        value_first bytes rest a v start first,
        decoded_values_are_found rest values (
          later,
          cut,
          said,
        ),
      )
  decoded_values_are_found bytes [] ([], cut, said) = rw (cut, no_attribute_is_found) refl
  decoded_values_are_found bytes values (attributes, cut, said) = absurd said

  -- bytes without an error parse as the values that are found
  pub found_values_are_decoded : (bytes : List ℕ) → IsBytes bytes → HasNoAttributeError parses bytes
      → DecodeTo parses bytes (decoded_in parses bytes)
  found_values_are_decoded bytes in_range clean =
      elim (decoded_or_error parses bytes in_range) [
        | inl m ↦ rw (decoded_values_are_found bytes m.0 m.1) m.1
        | inr f ↦ absurd (clean.none f.0 f.1)
      ]

  -- bytes without an error parse as no other values
  pub decoded_values_are_unique : (bytes : List ℕ) (vs : List A) → IsBytes bytes
      → HasNoAttributeError parses bytes
      → (decoded_in parses bytes ≡ vs) ↔ DecodeTo parses bytes vs
  decoded_values_are_unique bytes vs in_range clean = (
    λ same. subst (DecodeTo parses bytes) same (found_values_are_decoded bytes in_range clean),
    decoded_values_are_found bytes vs,
  )

  -- the bytes after an attribute that parses have no error either
  pub rest_has_no_error : (bytes rest : List ℕ) (a : Attribute) (v : A)
      → StartsWithAttribute bytes a rest
      → parses a ≡ Ok v → HasNoAttributeError parses bytes → HasNoAttributeError parses rest
  rest_has_no_error bytes rest a v s reads_v clean =
      record { none = λ e f. clean.none e (error_of_rest parses bytes rest a v e s reads_v f) }

  pub nothing_has_no_error : HasNoAttributeError parses []
  nothing_has_no_error = record {
    none = λ e. decoded_or_error_apart parses [] [] e ([], refl, tt);
  }

  -- bytes without an error have no framing error, and their first attribute parses
  pub no_framing_error_in_attributes : (bytes : List ℕ) (e : DecodeError)
      → HasNoAttributeError parses bytes → bytes ≢ []
      → IsFramingError bytes e → ⊥
  no_framing_error_in_attributes bytes e clean some f =
      clean.none e (error_of_first_attribute parses bytes e some (inl f))

  -- so their length field counts a header, and at most all bytes
  pub length_field_is_valid : (bytes : List ℕ) → HasNoAttributeError parses bytes
      → 0 < length bytes
      → (4 ≤ little_number 2 bytes) × (little_number 2 bytes ≤ length bytes)
  length_field_is_valid bytes clean some =
      let wrong = λ (e : DecodeError). no_framing_error_in_attributes bytes e clean
      (λ none. omega (arith, some, ap length none)) in
      elim (length_field_cases 4 (length bytes) (little_number 2 bytes)) [
        | inl short ↦ absurd (wrong (errors.AttributeHeaderCut (length bytes)) (refl, short))
        | inr (inl under) ↦ absurd (wrong (errors.AttributeLengthUnder4 (little_number 2 bytes)) (
          refl,
          under.0,
          under.1,
        ))
        | inr (inr (inl past)) ↦ absurd (wrong
            (errors.AttributeLengthPast (little_number 2 bytes) (length bytes))
            (refl, refl, past.0, past.1, past.2))
        | inr (inr (inr there)) ↦ there
      ]

  pub first_value_is_found : (bytes rest : List ℕ) (a : Attribute)
      → HasNoAttributeError parses bytes
      → StartsWithAttribute bytes a rest → (v : A) × (parses a ≡ Ok v)
      × (decoded_in parses bytes ≡ v ∷ decoded_in parses rest)
  first_value_is_found bytes rest a clean s =
      let said = value_of_ok (parses a)
      (λ e h. clean.none e (error_of_first_attribute parses bytes e
      (StartsWithAttribute-nonempty bytes rest a s)
      (inr (a, attribute_prefix_of_start bytes rest a s, h)))) in
      (said.0, said.1, value_first bytes rest a said.0 s said.1)

  pub first_attribute_decodes : (bytes rest : List ℕ) (a : Attribute)
      → HasNoAttributeError parses bytes
      → StartsWithAttribute bytes a rest → IsOk (parses a)
  first_attribute_decodes bytes rest a clean s =
      rw (first_value_is_found bytes rest a clean s).1 refl

-- an error after an accepted header is an error of the reply
pub error_after_header : (R : ResponseSpec) (bytes part : List ℕ) → part ≡ drop R.size bytes
    → (h : R.header.Value) (e : DecodeError) → R.header.parses tt bytes ≡ Ok h
    → HasAttributeError (decode_attribute R.attribute_set) part e
    → (response_codec R).rejects bytes tt e
error_after_header R bytes part same h e good f = inr (h, good, rw same at f)

-- bytes with an accepted header, and without an error after it, parse as the reply of the header
-- and the values that are found
pub accepted_reply_is_parsed : (R : ResponseSpec) (bytes : List ℕ) (h : R.header.Value)
    → R.header.parses tt bytes ≡ Ok h
    → HasNoAttributeError (decode_attribute R.attribute_set) (drop R.size bytes) → IsBytes bytes
    → (response_codec R).parses bytes tt (reply_after R h (drop R.size bytes))
accepted_reply_is_parsed R bytes h good clean in_range = (
  good,
  found_values_are_decoded (decode_attribute R.attribute_set) (drop R.size bytes)
      (AreBytes-drop R.size bytes in_range)
      clean,
)

-- the lemmas for a loop over the attributes of bytes without an error
pub ruleset attributes_without_error_rules = (
  value_first,
  no_attribute_is_found,
  rest_has_no_error,
  nothing_has_no_error,
  no_framing_error_in_attributes,
  first_attribute_decodes,
  append-nil,
)
