-- The item of a message follows from what a reader of dumps keeps of its payload.
use Rattle.std.specs.Prelude.{ℕ, List, Ok, Err}
use Rattle.netlink_core.specs.Bytes.{IsBytes}
use Rattle.netlink_core.specs.NetlinkMessage.{IsInnerMessageType, Payload, ParsesAsPayload}
use Rattle.netlink_core.specs.Header.{HasHeader, message_payload}
use Rattle.netlink_core.specs.Items.{Item}
use Rattle.netlink_core.specs.declared.error.DecodeError.{DecodeError}
use Rattle.netlink_core.specs.declared.header.NetlinkHeader.{NetlinkHeader}
use Rattle.netlink_core.proofs.Datagrams.{IsOfOwnLength}

-- `DeterminesItems parses rejects item_is`: the item of each message follows from `parses` and
-- `rejects`. `parses b t entry`: the payload `b` under the message type `t` is kept as `entry`.
-- `rejects b t e`: it is rejected with `e`. `item_is message item`: the message has this item.
pub record DeterminesItems {Entry : Type 0} (parses : List ℕ → ℕ → Entry → Type 0)
    (rejects : List ℕ → ℕ → DecodeError → Type 0) (item_is : List ℕ → Item Entry → Type 0)
    : Type 0 where
  -- A message with the header `h` has the item `Ok payload` if the bytes after the header parse as
  -- `payload`: an inner message by `parses`, a control message as its bytes.
  pub payload_is_item : (message : List ℕ) (h : NetlinkHeader) (payload : Payload Entry)
      → HasHeader message h
      → ParsesAsPayload parses (message_payload message h) h.message_type payload
      → item_is message (Ok payload)
  -- A message has the item `Err e` if it has an inner message, by the type in its header, that is
  -- rejected with `e`.
  pub error_is_item : (message : List ℕ) (h : NetlinkHeader) (e : DecodeError) → HasHeader message h
      → IsInnerMessageType h.message_type
      → rejects (message_payload message h) h.message_type e
      → item_is message (Err e)
  -- Each message that is as long as its length field says has an item.
  pub has_item : (message : List ℕ) → IsBytes message → IsOfOwnLength message
      → (item : Item Entry) × item_is message item
