-- Steps of iterations, whose state is a cursor of C.
use Rattle.std.specs.Prelude.{◌≡◌, ◌≢◌, ℕ, ◌+◌, ◌⊎◌, List, [], take, drop}
use Rattle.netlink_core.specs.Attribute.{Attribute, IsFramingError, StartsWithAttribute}
use Rattle.netlink_core.specs.Datagram.{StartsWithMessage}
use Rattle.netlink_core.specs.declared.error.DecodeError.{DecodeError}
use Rattle.netlink_core.specs.declared.header.NetlinkHeader.{NetlinkHeader}
use Rattle.netlink_core.specs.NetlinkMessage.{IsInnerMessageType, Payload, ParsesAsPayload}
use Rattle.netlink_core.specs.Errors.{error_code}
use Rattle.netlink_core.specs.Header.{HasHeader, IsMessageError}
use Rattle.netlink_packet_sock_diag.specs.Message.{Message, message_codec}
use Rattle.sockdiag_c.specs.declared.results.TheConstants.{END, ITEM}
use Rattle.sockdiag_c.specs.declared.walks.AttributeRange.{AttributeRange}
use Rattle.sockdiag_c.specs.declared.walks.Cursor.{Cursor}
use Rattle.sockdiag_c.specs.declared.walks.MessageRange.{MessageRange}

-- `bytes_after_cursor bytes cursor`: the bytes from the offset of the cursor on; none if the offset
-- is at or after the end
abbrev pub bytes_after_cursor : List ℕ → Cursor → List ℕ
bytes_after_cursor bytes cursor = drop cursor.offset bytes

-- One step of an iteration over bytes. `T` is the output struct, which describes an item.
pub record IterationStep (T : Type 0) : Type 0 where
  -- the bytes of the whole iteration
  pub bytes : List ℕ
  -- the cursor before and after the step
  pub old_cursor : Cursor
  pub new_cursor : Cursor
  -- the output struct before and after the step
  pub old_item : T
  pub new_item : T
  -- the return value
  pub returned : ℕ

-- `bytes_before_step step`: the bytes that are left before the step, from the old cursor on
abbrev pub bytes_before_step : {T : Type 0} → IterationStep T → List ℕ
bytes_before_step step = bytes_after_cursor step.bytes step.old_cursor

-- `bytes_after_step step`: the bytes that are left after the step, from the new cursor on
abbrev pub bytes_after_step : {T : Type 0} → IterationStep T → List ℕ
bytes_after_step step = bytes_after_cursor step.bytes step.new_cursor

-- `IterationEnds step`: no bytes are left. The return value is END, and neither the cursor nor the
-- output struct is changed.
abbrev pub IterationEnds : {T : Type 0} → IterationStep T → Type 0
IterationEnds step =
    (step.returned ≡ END) × (bytes_before_step step ≡ []) × (step.new_cursor ≡ step.old_cursor)
    × (step.new_item ≡ step.old_item)

-- `IterationFails IsDecodeError step`: bytes are left that do not begin with an item:
-- `IsDecodeError bytes e` states that these bytes have the error `e`. The return value is its code,
-- the output struct is unchanged, and no bytes are left after the step.
abbrev pub IterationFails : {T : Type 0} → (List ℕ → DecodeError → Type 0) → IterationStep T
    → Type 0
IterationFails IsDecodeError step =
    (e : DecodeError) × IsDecodeError (bytes_before_step step) e × (step.returned ≡ error_code e)
    × (bytes_before_step step ≢ []) × (bytes_after_step step ≡ [])
    × (step.new_item ≡ step.old_item)

-- ---- attributes

-- `attribute_in bytes range`: the attribute that the output struct `range` describes: its type
-- field, and its value, the `range.length` bytes at `range.offset`
abbrev pub attribute_in : List ℕ → AttributeRange → Attribute
attribute_in bytes range =
    record { type_word = range.type_word; value = take range.length (drop range.offset bytes) }

-- `StepsOverAttribute step`: one of:
-- - No bytes are left, and the return value is END (`IterationEnds`).
-- - The bytes left begin with an attribute. The output struct describes it: its value starts 4
--   bytes after the cursor. The cursor is advanced past the attribute and its padding, and the
--   return value is ITEM.
-- - The bytes left do not begin with an attribute, and the return value is the code of the framing
--   error (`IterationFails`).
abbrev pub StepsOverAttribute : IterationStep AttributeRange → Type 0
StepsOverAttribute step =
    IterationEnds step
    ⊎ (((step.returned ≡ ITEM)
    × StartsWithAttribute (bytes_before_step step) (attribute_in step.bytes step.new_item)
    (bytes_after_step step)
    × (step.new_item.offset ≡ step.old_cursor.offset + 4))
    ⊎ IterationFails IsFramingError step)

-- ---- messages

-- `header_in range`: the netlink header of the message that the output struct `range` describes.
-- Its length field counts the payload and the 16 bytes of the header.
abbrev pub header_in : MessageRange → NetlinkHeader
header_in range = record {
  length = 16 + range.length;
  message_type = range.message_type;
  flags = range.flags;
  sequence_number = range.sequence_number;
  port_number = range.port_number;
}

-- `payload_in bytes range`: the payload of the message that the output struct `range` describes:
-- the `range.length` bytes at `range.offset`
abbrev pub payload_in : List ℕ → MessageRange → List ℕ
payload_in bytes range = take range.length (drop range.offset bytes)

-- `IsPayloadCheckResult payload message_type returned`: one of:
-- - The payload parses under the message type, and the return value is ITEM. Under the types
--   NLMSG_NOOP, NLMSG_ERROR, NLMSG_DONE and NLMSG_OVERRUN (1 to 4) any payload parses.
-- - The type is another one, that of an inner message. The payload is rejected, and the return
--   value is the code of its first error `e`.
abbrev pub IsPayloadCheckResult : List ℕ → ℕ → ℕ → Type 0
IsPayloadCheckResult payload message_type returned =
    ((returned ≡ ITEM) × ((value : Payload Message)
    × ParsesAsPayload message_codec.parses payload message_type value))
    ⊎ ((e : DecodeError) × IsInnerMessageType message_type
    × message_codec.rejects payload message_type e
    × (returned ≡ error_code e))

-- `StoresMessage step`: the bytes at the cursor begin with a message. The output struct describes
-- it: its header, and its payload, which starts 16 bytes after the cursor. The cursor is advanced
-- past the message and its padding.
abbrev pub StoresMessage : IterationStep MessageRange → Type 0
StoresMessage step =
    (message : List ℕ)
    × StartsWithMessage (bytes_before_step step) message (bytes_after_step step)
    × HasHeader (bytes_before_step step) (header_in step.new_item)
    × (step.new_item.offset ≡ step.old_cursor.offset + 16)

-- `StoresCheckedMessage step`: StoresMessage holds, and the return value is the result of the check
-- of the payload: ITEM if it is accepted, else the code of its first error. The message is stored
-- in both cases.
abbrev pub StoresCheckedMessage : IterationStep MessageRange → Type 0
StoresCheckedMessage step =
    StoresMessage step
    × IsPayloadCheckResult (payload_in step.bytes step.new_item) step.new_item.message_type
    step.returned

-- `StepsOverMessage step`: one of:
-- - No bytes are left, and the return value is END (`IterationEnds`).
-- - A message is stored, and the return value is ITEM, or the code of the first error of its
--   payload (`StoresCheckedMessage`).
-- - The bytes left do not begin with a message, and the return value is the code of the framing
--   error (`IterationFails`).
abbrev pub StepsOverMessage : IterationStep MessageRange → Type 0
StepsOverMessage step =
    IterationEnds step ⊎ (StoresCheckedMessage step ⊎ IterationFails IsMessageError step)

-- `StepsOverUncheckedMessage step`: one of:
-- - No bytes are left, and the return value is END (`IterationEnds`).
-- - A message is stored, and the return value is ITEM, whatever its payload (`StoresMessage`).
-- - The bytes left do not begin with a message, and the return value is the code of the framing
--   error (`IterationFails`).
abbrev pub StepsOverUncheckedMessage : IterationStep MessageRange → Type 0
StepsOverUncheckedMessage step =
    IterationEnds step
    ⊎ (((step.returned ≡ ITEM) × StoresMessage step) ⊎ IterationFails IsMessageError step)
