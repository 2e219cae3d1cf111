-- The codec laws of a reply follow from the laws of its header and of its set of attribute types.
use Rattle.std.proofs.Common.{Ok, ◌≡◌, ◌↔◌, inl, inr, ℕ, List, [], ◌∷◌, arith}
use Rattle.std.specs.Prelude.{drop, map}
use Rattle.std.specs.List.{AllByRecursion, AllZip, flat_map}
use Rattle.std.proofs.lemmas.List.{drop_at}
use Rattle.netlink_core.specs.Bytes.{IsBytes}
use Rattle.netlink_core.specs.Attribute.{Attribute, FitsLengthField}
use Rattle.netlink_core.specs.Attribute.{FitsHeaderFields}
use Rattle.netlink_core.specs.laws.Prefix.{IsAttributeInRange, value_or_error}
use Rattle.netlink_core.specs.Attribute.{attribute_bytes, SplitsIntoAttributes}
use Rattle.netlink_core.specs.AttributeSet.{AttributeSet, AttributeValue, decode_attribute}
use Rattle.netlink_core.specs.AttributeSet.{encode_attribute, IsInRangeIn, IsNormalIn}
use Rattle.netlink_core.specs.AttributeSet.{AreEquivalentAttributes}
use Rattle.netlink_core.specs.laws.ReplyObligations.{AttributeSetLaws, ResponseLaws}
use Rattle.netlink_core.specs.Response.{ResponseSpec, response_codec}
use Rattle.netlink_core.specs.Codec.{KeepsCodecLaws}
use Rattle.netlink_core.specs.laws.Byte.{IsBytes-append}
use Rattle.netlink_core.specs.laws.AttributeSet.{decode_error_is_not_memory, decoded_is_normal}
use Rattle.netlink_core.specs.laws.AttributeSet.{decoded_equal_iff_equivalent, encoded_in_range}
use Rattle.netlink_core.specs.laws.AttributeSet.{decoded_round_trips}
use Rattle.netlink_core.proofs.TableLaws.{AreBytes-drop}
use Rattle.netlink_core.proofs.Splitting.{all_attribute_bytes_in_range, split_attributes_in_range}
use Rattle.netlink_core.proofs.Splitting.{decoded_or_error, decoded_or_error_apart}
use Rattle.netlink_core.proofs.Splitting.{one_error_of_attributes, one_split_into_attributes}
use Rattle.netlink_core.proofs.Splitting.{encoded_values_are_decoded}

-- ---- from attributes to lists of attributes

module _ (F : AttributeSet) (laws : AttributeSetLaws F) where
  abbrev Say : List Attribute → List (AttributeValue F) → Type 0
  Say xs vs = AllZip (λ a v. decode_attribute F a ≡ Ok v) xs vs

  lists_equal_iff_equivalent : (xs ys : List Attribute) (vs ws : List (AttributeValue F))
      → AllByRecursion IsAttributeInRange xs → AllByRecursion IsAttributeInRange ys → Say xs vs
      → Say ys ws → ((vs ≡ ws) ↔ AllZip (AreEquivalentAttributes F) xs ys)
  lists_equal_iff_equivalent (x ∷ xs) (y ∷ ys) (v ∷ vs) (w ∷ ws) s t h k =
      grind (
        arith,
        decoded_equal_iff_equivalent F laws x y v w s.0 t.0 h.0 k.0,
        lists_equal_iff_equivalent xs ys vs ws s.1 t.1 h.1 k.1,
      )
  lists_equal_iff_equivalent xs ys vs ws s t h k = grind arith

  decoded_list_is_normal : (xs : List Attribute) (vs : List (AttributeValue F))
      → AllByRecursion IsAttributeInRange xs → Say xs vs
      → AllByRecursion (IsInRangeIn F) vs × AllByRecursion (IsNormalIn F) vs
  decoded_list_is_normal (x ∷ xs) (v ∷ vs) s h =
      search (decoded_is_normal F laws x v s.0 h.0, decoded_list_is_normal xs vs s.1 h.1)
  decoded_list_is_normal xs vs s h = grind arith

  encoded_list_in_range : (vs : List (AttributeValue F))
      → AllByRecursion (IsInRangeIn F) vs
      → AllByRecursion IsAttributeInRange (map (encode_attribute F) vs)
  encoded_list_in_range [] t = tt
  encoded_list_in_range (v ∷ vs) t = (encoded_in_range F laws v t.0, encoded_list_in_range vs t.1)

  decoded_list_round_trips : (vs : List (AttributeValue F)) → AllByRecursion (IsInRangeIn F) vs
      → AllByRecursion (IsNormalIn F) vs
      → AllByRecursion FitsLengthField (map (encode_attribute F) vs)
      → AllByRecursion FitsHeaderFields (map (encode_attribute F) vs)
      × Say (map (encode_attribute F) vs) vs
  decoded_list_round_trips [] t n f = (tt, tt)
  decoded_list_round_trips (v ∷ vs) t n f =
      grind (arith, decoded_list_round_trips vs t.1 n.1 f.1, encoded_in_range, decoded_round_trips)

-- ---- replies

module _ (R : ResponseSpec) (laws : ResponseLaws R) where
  open R use {attribute_set as F}

  -- the attributes after the header are in range
  attributes_after_header_in_range : (b : List ℕ) (xs : List Attribute) → IsBytes b
      → SplitsIntoAttributes (drop R.size b) xs []
      → AllByRecursion IsAttributeInRange xs
  attributes_after_header_in_range b xs in_range =
      split_attributes_in_range (drop R.size b) xs (AreBytes-drop R.size b in_range)

  pub reply_codec_laws : KeepsCodecLaws (response_codec R)
  reply_codec_laws = record {
    is_total = λ b p in_range. elim (value_or_error (R.header.parses tt b)) [
      | inr refused ↦ inr (refused.0, inl refused.1)
      | inl header ↦ elim (decoded_or_error (decode_attribute F) (drop R.size b)
          (AreBytes-drop R.size b in_range)) [
            | inl nlas ↦ inl (record { header = header.0; nlas = nlas.0 }, (header.1, nlas.1))
            | inr error ↦ inr (error.0, inr (header.0, header.1, error.1))
          ]
    ];
    is_exclusive = λ b p v e h k.
        grind (arith, decoded_or_error_apart (decode_attribute F) (drop R.size b) v.nlas e h.1);
    error_is_unique = λ b p e f h k. grind (
      arith,
      one_error_of_attributes (decode_attribute F) (drop R.size b) e f,
    );
    error_is_not_memory = λ b p h.
        grind (
          arith,
          laws.header.error_is_not_memory b tt,
          decode_error_is_not_memory F laws.attribute_set,
        );
    -- two accepted byte strings have equal values if and only if they are equivalent
    equal_iff_equivalent = λ b c p v w b-in_range c-in_range h k.
        let headers = laws.header.equal_iff_equivalent b c tt _ _ b-in_range c-in_range h.0 k.0 in
        let lists = lists_equal_iff_equivalent F laws.attribute_set _ _ _ _
        (attributes_after_header_in_range b _ b-in_range h.1.1)
        (attributes_after_header_in_range c _ c-in_range k.1.1)
        h.1.2 k.1.2 in (
          λ e. (headers.0 cc, h.1.0, k.1.0, h.1.1, k.1.1, lists.0 cc),
          λ (front, left, right, left_cut, right_cut, all).
              let same-header = headers.1 front in
              let same-nlas = lists.1 (rw (
                one_split_into_attributes (drop R.size b) h.1.0 left h.1.1 left_cut,
                one_split_into_attributes (drop R.size c) k.1.0 right k.1.1 right_cut,
              ) all) in
              λ i. record { header = same-header i; nlas = same-nlas i },
        );
    parsed_is_normal = λ b p v in_range h.
        let header = laws.header.parsed_is_normal b tt _ in_range h.0 in
        let nlas = decoded_list_is_normal F laws.attribute_set h.1.0 v.nlas
        (attributes_after_header_in_range b _ in_range h.1.1) h.1.2 in
        ((header.0, nlas.0), (header.1, nlas.1));
    serialized_in_range = λ v in_range.
        IsBytes-append (R.header.bytes v.header) _
        (laws.header.serialized_in_range v.header in_range.0)
        (all_attribute_bytes_in_range _
        (encoded_list_in_range F laws.attribute_set v.nlas in_range.1));
    -- a writable value in normal form round-trips
    round_trips = λ p v in_range normal fits.
        let nlas : List ℕ = flat_map attribute_bytes (map (encode_attribute F) v.nlas) in
        let lists = decoded_list_round_trips F laws.attribute_set v.nlas in_range.1 normal.1
        fits.0 in (
          laws.as_prefix.reads_as_prefix v.header nlas in_range.0 normal.0,
          rw (drop_at (R.header.bytes v.header) nlas R.size
              (laws.as_prefix.bytes_long v.header in_range.0))
              (encoded_values_are_decoded (decode_attribute F) _ v.nlas lists.0 lists.1),
        );
  }
