-- Steps of iterations, by the offset in a cursor.
use Rattle.std.proofs.Common.{◌≡◌, ◌<◌, ◌≤◌, ℕ, ◌+◌, ◌-◌, ◌⊎◌, inl, inr, List, [], ◌∷◌, ◌++◌}
use Rattle.std.proofs.Common.{length, take, drop, refl, sym, arith}
use Rattle.std.proofs.lemmas.List.{drop-drop, take_at}
use Rattle.netlink_core.specs.Attribute.{Attribute, SplitsIntoAttributes, StartsWithAttribute}
use Rattle.netlink_core.specs.Attribute.{padding_length}
use Rattle.netlink_core.specs.Datagram.{StartsWithMessage}
use Rattle.netlink_core.specs.declared.header.NetlinkHeader.{NetlinkHeader}
use Rattle.netlink_core.specs.declared.message.NetlinkPayload.TheVariants.{Done, Error, Noop}
use Rattle.netlink_core.specs.declared.message.NetlinkPayload.TheVariants.{Overrun}
use Rattle.netlink_core.specs.Header.{HasHeader}
use Rattle.netlink_core.specs.laws.Prefix.{prefix_or_error_apart}
use Rattle.netlink_core.proofs.Splitting.{one_first_attribute}
use Rattle.netlink_core.proofs.Datagrams.{starts_with_message}
use Rattle.netlink_core.proofs.Padding.{starts_with_attribute}
use Rattle.netlink_core.proofs.Iterating.{attribute_prefix_of_start}
use Rattle.sockdiag_c.specs.declared.walks.AttributeRange.{AttributeRange}
use Rattle.sockdiag_c.specs.declared.walks.Cursor.{Cursor}
use Rattle.sockdiag_c.specs.declared.results.TheConstants.{END, ITEM}
use Rattle.sockdiag_c.specs.declared.walks.MessageRange.{MessageRange}
use Rattle.sockdiag_c.specs.Walks.{IsPayloadCheckResult, StepsOverAttribute, attribute_in}
use Rattle.sockdiag_c.specs.Walks.{header_in}
use Rattle.sockdiag_c.specs.Walks.{IterationStep, StepsOverUncheckedMessage, StoresMessage}
use Rattle.sockdiag_c.specs.Walks.{bytes_after_step, bytes_before_step}

-- the value of the attribute at an offset is four bytes after the offset
attribute_read : (bytes rest : List ℕ) (offset : ℕ) (a : Attribute)
    → StartsWithAttribute (drop offset bytes) a rest
    → a ≡ attribute_in bytes
    (record { offset = offset + 4; length = length a.value; type_word = a.type_word })
attribute_read bytes rest offset a s =
    grind (arith, drop-drop 4 offset bytes, take_at a.value (s.padding ++ rest) (length a.value))

-- a step over an attribute, to the offset after its padding
pub attribute_passed : (bytes rest : List ℕ) (offset end : ℕ) (a : Attribute)
    → StartsWithAttribute (drop offset bytes) a rest
    → end ≡ 4 + length a.value + padding_length (4 + length a.value)
    → StartsWithAttribute (drop offset bytes)
    (attribute_in bytes (record {
      offset = offset + 4;
      length = length a.value;
      type_word = a.type_word;
    })) (drop (offset + end) bytes)
attribute_passed bytes rest offset end a s end-is =
    grind (
      arith,
      attribute_read bytes rest offset a s,
      starts_with_attribute (drop offset bytes) (drop (offset + end) bytes) a end
          (attribute_prefix_of_start
          (drop offset bytes) rest a s) end-is (sym (drop-drop end offset bytes)),
      attribute_prefix_of_start (drop offset bytes) rest a s,
      drop-drop end offset bytes,
    )

-- the output struct for a message with this header at an offset
abbrev pub part_of : ℕ → NetlinkHeader → MessageRange
part_of offset h = record {
  offset = offset + 16;
  length = h.length - 16;
  message_type = h.message_type;
  flags = h.flags;
  sequence_number = h.sequence_number;
  port_number = h.port_number;
}

-- the header of the output struct is the header that was parsed
header_read : (bytes : List ℕ) (offset : ℕ) (h : NetlinkHeader) → HasHeader bytes h
    → h ≡ header_in (part_of offset h)
header_read bytes offset h head =
    grind arith

-- the bytes start with the header of the output struct
pub header_is_framed : (bytes : List ℕ) (offset : ℕ) (h : NetlinkHeader) → HasHeader bytes h
    → HasHeader bytes (header_in (part_of offset h))
header_is_framed bytes offset h head =
    grind (arith, header_read bytes offset h head)

-- a step over a message, to the offset after its padding
pub message_passed : (bytes : List ℕ) (offset end : ℕ) (h : NetlinkHeader)
    → HasHeader (drop offset bytes) h → end ≡ h.length + padding_length h.length
    → StartsWithMessage (drop offset bytes) (take h.length (drop offset bytes))
    (drop (offset + end) bytes)
message_passed bytes offset end h head end-is =
    grind (
      arith,
      starts_with_message (drop offset bytes) (take h.length (drop offset bytes)) (drop
          (offset + end) bytes) h end head,
      drop-drop end offset bytes,
    )

-- the payload of a control message, types 1 to 4, is accepted
control_payload : (payload : List ℕ) (t : ℕ) → (t ≡ 1) ⊎ ((t ≡ 2) ⊎ ((t ≡ 3) ⊎ (t ≡ 4)))
    → IsPayloadCheckResult payload t ITEM
control_payload payload t (inl one) = inl (refl, (Noop, one))
control_payload payload t (inr (inl two)) = inl (refl, (Error payload, (two, refl)))
control_payload payload t (inr (inr (inl three))) = inl (refl, (Done payload, (three, refl)))
control_payload payload t (inr (inr (inr four))) = inl (refl, (Overrun payload, (four, refl)))

pub control_payload_is_accepted : (payload : List ℕ) (t : ℕ) → 1 ≤ t → t < 5
    → IsPayloadCheckResult payload t ITEM
control_payload_is_accepted payload t low high = control_payload payload t (grind arith)

-- a step that returns ITEM stores a message
pub message_stored : (bytes : List ℕ) (old new : Cursor) (was now : MessageRange) (answer : ℕ)
    → StepsOverUncheckedMessage (record {
      bytes = bytes;
      old_cursor = old;
      new_cursor = new;
      old_item = was;
      new_item = now;
      returned = answer;
    }) → answer ≡ ITEM
    → StoresMessage (record {
      bytes = bytes;
      old_cursor = old;
      new_cursor = new;
      old_item = was;
      new_item = now;
      returned = answer;
    })
message_stored bytes old new was now answer step one =
    grind arith

-- ---- steps over bytes that are split into attributes

-- a step returns the first attribute
pub step_at_attribute : (step : IterationStep AttributeRange)
    (first : Attribute) (later : List Attribute)
    → SplitsIntoAttributes (bytes_before_step step) (first ∷ later) []
    → StepsOverAttribute step
    → (step.returned ≡ ITEM) × (attribute_in step.bytes step.new_item ≡ first)
    × SplitsIntoAttributes (bytes_after_step step) later []
step_at_attribute step first later h k =
    grind (
      arith,
      one_first_attribute (bytes_before_step step) h.0 (bytes_after_step step) first
          (attribute_in step.bytes step.new_item) h.1,
      prefix_or_error_apart (bytes_before_step step) first,
      attribute_prefix_of_start (bytes_before_step step) h.0 first h.1,
    )

-- if no attribute is left, the iteration ends
pub step_at_end : (step : IterationStep AttributeRange)
    → SplitsIntoAttributes (bytes_before_step step) [] []
    → StepsOverAttribute step → step.returned ≡ END
step_at_end step none h =
    grind arith
