-- Replies with a second set of attribute types, in which attributes decode and serialize alike.
use Rattle.std.proofs.Common.{◌≡◌, ◌↔◌, List, ℕ, Ok, drop, map, inl, inr, refl}
use Rattle.netlink_core.specs.declared.error.DecodeError.{DecodeError}
use Rattle.netlink_core.specs.Attribute.{HasAttributeError}
use Rattle.netlink_core.specs.Bytes.{IsBytes}
use Rattle.netlink_core.specs.AttributeSet.{AttributeSet, decode_attribute, encode_attribute}
use Rattle.netlink_core.specs.Response.{ResponseSpec, response_bytes, response_codec}
use Rattle.attribute_lists.specs.AttributesIn.{HasNoAttributeError, reply_after, decoded_in}
use Rattle.attribute_lists.proofs.Finding.{accepted_reply_is_parsed}

module _ (R : ResponseSpec) (F : AttributeSet) where
  -- the same reply, with the second set of attribute types
  abbrev WithSecondSet : ResponseSpec
  WithSecondSet = record R { attribute_set = F }

  -- an error of a reply is also its error with the second set
  pub error_with_second_set : ((b : List ℕ) (e : DecodeError)
      → HasAttributeError (decode_attribute R.attribute_set) b e
      → HasAttributeError (decode_attribute F) b e)
      → (b : List ℕ) (e : DecodeError) → (response_codec R).rejects b tt e
      → (response_codec WithSecondSet).rejects b tt e
  error_with_second_set faults b e refused = elim refused [
    | inl header ↦ inl header
    | inr behind ↦ inr (behind.0, behind.1, faults _ e behind.2)
  ]

  -- accepted bytes parse as the same header, and as what the attributes decode to in the second set
  pub parsed_with_second_set : ((b : List ℕ)
      → HasNoAttributeError (decode_attribute R.attribute_set) b
      → HasNoAttributeError (decode_attribute F) b)
      → (b c : List ℕ) (head : (h : R.header.Value) × (R.header.parses tt b ≡ Ok h))
      → HasNoAttributeError (decode_attribute R.attribute_set) (drop R.size b) → b ≡ c → IsBytes c
      → (response_codec WithSecondSet).parses c tt
      (reply_after WithSecondSet head.0 (drop R.size b))
  parsed_with_second_set clean b c head good same in_range =
      rw (← same) (accepted_reply_is_parsed WithSecondSet b head.0 head.1 (clean _ good)
      (rw same in_range))

  module _ (same : (b : List ℕ) → map (encode_attribute R.attribute_set)
      (decoded_in (decode_attribute R.attribute_set) b)
      ≡ map (encode_attribute F) (decoded_in (decode_attribute F) b)) (h : R.header.Value)
      (b : List ℕ) where
    -- both serialize to the same bytes
    pub bytes_with_second_set : response_bytes R (reply_after R h b) ≡ response_bytes WithSecondSet
        (reply_after WithSecondSet h b)
    bytes_with_second_set = rw (same b) refl

    -- both are writable, or neither is
    pub writable_with_second_set : (response_codec R).is_writable (reply_after R h b)
        ↔ (response_codec WithSecondSet).is_writable
        (reply_after WithSecondSet h b)
    writable_with_second_set = (λ fits. rw (same b) at fits, λ fits. rw (same b) fits)
